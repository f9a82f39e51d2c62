-- Whether a design is lawful can be told by computing.
-- Assumes nothing.
use Rattle.std.specs.Prelude.{ℕ, ◌+◌, ◌^◌, ◌<◌, Bool, ◌↔◌, T, length}
use Rattle.std.proofs.Math.Decide.{ℕ_discrete, dec_le, dec_lt}
use Rattle.timeline.specs.Design.{Design, Port, Source, own, output_of, constant, leaf, built, no_port, no_call, no_component, component, class}
use Rattle.timeline.specs.Design.{delay}
use Rattle.timeline.specs.Design.{input_count, output_count, instance_count, invocation_count, argument_count, connection_count, input, output, made_of}
use Rattle.timeline.specs.Design.{call, instance, invoked, offset, argument, connection, takes, gives}
use Rattle.timeline.specs.Rules.{PortRange, SourceRange, Contains, Ranges, Whole, Counts, There, References, Wide, Widths, Intervals, Spacing, Span}
use Rattle.timeline.specs.Rules.{Ready, Reading, Rules, Lawful}
use Rattle.timeline.specs.Decide.{decided, decided_holds, holds_decided, dec_by, dec_if, dec_and, dec_or, dec_differ, dec_class, dec_below}

unfoldable pub dec_port_range : (p : Port) → Dec (PortRange p)
dec_port_range p =
    dec_by (λ h. record { some = h.0; most = h.1.0; wide = h.1.1.0; narrow = h.1.1.1 }) (λ r. (r.some, (r.most, (r.wide, r.narrow))))
    (dec_and (dec_lt p.start p.end) (dec_and (dec_le p.end 1024) (dec_and (dec_le 1 p.width) (dec_le p.width 64))))

unfoldable pub dec_source_range : (s : Source) → Dec (SourceRange s)
dec_source_range (own i) = dec_lt i 16
dec_source_range (output_of j o) = dec_and (dec_lt j 64) (dec_lt o 16)
dec_source_range (constant v) = dec_lt v (2 ^ 64)

unfoldable pub dec_contains : (p : Port) (a : ℕ) (q : Port) (b : ℕ) → Dec (Contains p a q b)
dec_contains p a q b =
    dec_by (λ h. record { from = h.0; upto = h.1 }) (λ r. (r.from, r.upto))
    (dec_and (dec_le (a + p.start) (b + q.start)) (dec_le (b + q.end) (a + p.end)))

module _ (D : Design) (c : ℕ) where
  -- A fact about each invocation, about each of its arguments, and about each connection.
  unfoldable pub dec_invocations : (P : ℕ → Type 0) → ((j : ℕ) → Dec (P j)) → Dec ((j : ℕ) → j < invocation_count D c → P j)
  dec_invocations P d = dec_below (invocation_count D c) P d

  unfoldable pub dec_arguments : (P : ℕ → ℕ → Type 0) → ((j i : ℕ) → Dec (P j i))
      → Dec ((j : ℕ) → j < invocation_count D c → (i : ℕ) → i < argument_count D c j → P j i)
  dec_arguments P d = dec_invocations _ (λ j. dec_below (argument_count D c j) (P j) (d j))

  unfoldable pub dec_connections : (P : ℕ → Type 0) → ((o : ℕ) → Dec (P o)) → Dec ((o : ℕ) → o < connection_count D c → P o)
  dec_connections P d = dec_below (connection_count D c) P d

  unfoldable pub dec_ranges : Dec (Ranges D c)
  dec_ranges =
      dec_by
      (λ h. record {
        delay_some = h.0;
        delay_most = h.1.0;
        input_range = h.1.1.0;
        output_range = h.1.1.1.0;
        instance_range = h.1.1.1.1.0;
        invocation_range = h.1.1.1.1.1.0;
        argument_range = h.1.1.1.1.1.1.0;
        connection_range = h.1.1.1.1.1.1.1;
      })
      (λ r.
      (r.delay_some, (r.delay_most, (r.input_range, (r.output_range, (r.instance_range, (r.invocation_range, (r.argument_range, r.connection_range))))))))
      (dec_and (dec_le 1 (delay D c)) (dec_and (dec_le (delay D c) 1024)
      (dec_and (dec_below (input_count D c) _ (λ i. dec_port_range (input D c i)))
      (dec_and (dec_below (output_count D c) _ (λ o. dec_port_range (output D c o)))
      (dec_and (dec_below (instance_count D c) _ (λ n. dec_lt (made_of D c n) 64))
      (dec_and (dec_invocations _ (λ j. dec_and (dec_lt (instance D c j) 32) (dec_lt (offset D c j) 1024)))
      (dec_and (dec_arguments _ (λ j i. dec_source_range (argument D c j i)))
      (dec_connections _ (λ o. dec_source_range (connection D c o))))))))))

  unfoldable pub dec_whole : Dec (Whole D c)
  dec_whole =
      dec_by
      (λ h. record {
        all_arguments = h.0;
        all_connections = h.1.0;
        leaf_instances = h.1.1.0;
        leaf_invocations = h.1.1.1.0;
        leaf_connections = h.1.1.1.1.0;
        argument_lists = h.1.1.1.1.1;
      })
      (λ r. (r.all_arguments, (r.all_connections, (r.leaf_instances, (r.leaf_invocations, (r.leaf_connections, r.argument_lists))))))
      (dec_and (dec_invocations _ (λ j. ℕ_discrete (argument_count D c j) (input_count D (invoked D c j))))
      (dec_and (dec_if (dec_class (class D c) built) (ℕ_discrete (connection_count D c) (output_count D c)))
      (dec_and (dec_if (dec_class (class D c) leaf) (ℕ_discrete (instance_count D c) 0))
      (dec_and (dec_if (dec_class (class D c) leaf) (ℕ_discrete (invocation_count D c) 0))
      (dec_and (dec_if (dec_class (class D c) leaf) (ℕ_discrete (connection_count D c) 0))
      (ℕ_discrete (length (component D c).arguments) (invocation_count D c)))))))

  unfoldable pub dec_counts : Dec (Counts D c)
  dec_counts =
      dec_by
      (λ h. record { few_inputs = h.0; few_outputs = h.1.0; few_instances = h.1.1.0; few_invocations = h.1.1.1 })
      (λ r. (r.few_inputs, (r.few_outputs, (r.few_instances, r.few_invocations))))
      (dec_and (dec_le (input_count D c) 16) (dec_and (dec_le (output_count D c) 16)
      (dec_and (dec_le (instance_count D c) 32) (dec_le (invocation_count D c) 64))))

  unfoldable pub dec_there : (n : ℕ) (s : Source) → Dec (There D c n s)
  dec_there n (own i) = dec_lt i (input_count D c)
  dec_there n (output_of j o) =
      dec_by (λ h. (h.0, h.1.0, h.1.1)) (λ h. (h.0, (h.1, h.2)))
      (dec_and (dec_lt j n) (dec_and (dec_lt j (invocation_count D c)) (dec_lt o (output_count D (invoked D c j)))))
  dec_there n (constant v) = yes tt

  unfoldable pub dec_references : Dec (References D c)
  dec_references =
      dec_by
      (λ h. record { lower = h.0; named = h.1.0; argument_there = h.1.1.0; connection_there = h.1.1.1 })
      (λ r. (r.lower, (r.named, (r.argument_there, r.connection_there))))
      (dec_and (dec_below (instance_count D c) _ (λ n. dec_lt (made_of D c n) c))
      (dec_and (dec_invocations _ (λ j. dec_lt (instance D c j) (instance_count D c)))
      (dec_and (dec_arguments _ (λ j i. dec_there j (argument D c j i))) (dec_connections _ (λ o. dec_there (invocation_count D c) (connection D c o))))))

  unfoldable pub dec_wide : (s : Source) (q : Port) → Dec (Wide D c s q)
  dec_wide (own i) q = ℕ_discrete (input D c i).width q.width
  dec_wide (output_of j o) q = ℕ_discrete (gives D c j o).width q.width
  dec_wide (constant v) q = dec_lt v (2 ^ q.width)

  unfoldable pub dec_widths : Dec (Widths D c)
  dec_widths =
      dec_by (λ h. record { argument_wide = h.0; connection_wide = h.1 }) (λ r. (r.argument_wide, r.connection_wide))
      (dec_and (dec_arguments _ (λ j i. dec_wide (argument D c j i) (input D (invoked D c j) i)))
      (dec_connections _ (λ o. dec_wide (connection D c o) (output D c o))))

  unfoldable pub dec_intervals : Dec (Intervals D c)
  dec_intervals =
      dec_by (λ h. record { input_interval = h.0; output_interval = h.1 }) (λ r. (r.input_interval, r.output_interval))
      (dec_and (dec_below (input_count D c) _ (λ i. dec_le (input D c i).end ((input D c i).start + delay D c)))
      (dec_below (output_count D c) _ (λ o. dec_le (output D c o).end ((output D c o).start + delay D c))))

  unfoldable pub dec_spacing : Dec (Spacing D c)
  dec_spacing =
      dec_invocations _ (λ j. dec_invocations _ (λ j'. dec_if (ℕ_discrete (instance D c j) (instance D c j')) (dec_if (dec_differ j j')
      (dec_or (dec_le (offset D c j + takes D c j) (offset D c j')) (dec_le (offset D c j' + takes D c j') (offset D c j))))))

  unfoldable pub dec_span : Dec (Span D c)
  dec_span =
      dec_invocations _ (λ j. dec_invocations _ (λ j'. dec_if (ℕ_discrete (instance D c j) (instance D c j'))
      (dec_le (offset D c j' + takes D c j') (offset D c j + delay D c))))

  unfoldable pub dec_ready : (s : Source) (q : Port) (k : ℕ) → Dec (Ready D c s q k)
  dec_ready (own i) q k = dec_contains (input D c i) 0 q k
  dec_ready (output_of j o) q k = dec_contains (gives D c j o) (offset D c j) q k
  dec_ready (constant v) q k = yes tt

  unfoldable pub dec_reading : Dec (Reading D c)
  dec_reading =
      dec_by (λ h. record { argument_ready = h.0; connection_ready = h.1 }) (λ r. (r.argument_ready, r.connection_ready))
      (dec_and (dec_arguments _ (λ j i. dec_ready (argument D c j i) (input D (invoked D c j) i) (offset D c j)))
      (dec_connections _ (λ o. dec_ready (connection D c o) (output D c o) 0)))

  unfoldable pub dec_rules : Dec (Rules D c)
  dec_rules =
      dec_by
      (λ h. record {
        references = h.0;
        widths = h.1.0;
        intervals = h.1.1.0;
        spacing = h.1.1.1.0;
        span = h.1.1.1.1.0;
        reading = h.1.1.1.1.1;
      })
      (λ r. (r.references, (r.widths, (r.intervals, (r.spacing, (r.span, r.reading))))))
      (dec_and dec_references (dec_and dec_widths (dec_and dec_intervals (dec_and dec_spacing (dec_and dec_span dec_reading)))))

unfoldable pub dec_lawful : (D : Design) → Dec (Lawful D)
dec_lawful D =
    dec_by
    (λ h. record { some = h.0; few = h.1.0; ranges = h.1.1.0; whole = h.1.1.1.0; counts = h.1.1.1.1.0; rules = h.1.1.1.1.1 })
    (λ r. (r.some, (r.few, (r.ranges, (r.whole, (r.counts, r.rules))))))
    (dec_and (dec_lt 0 (length D)) (dec_and (dec_le (length D) 64)
    (dec_and (dec_below (length D) _ (dec_ranges D)) (dec_and (dec_below (length D) _ (dec_whole D))
    (dec_and (dec_below (length D) _ (dec_counts D)) (dec_below (length D) _ (dec_rules D)))))))

-- The answer, with all that it takes to compute it.
unfoldable pub is_lawful : Design → Bool
unfolding dec_by dec_if dec_and dec_or dec_differ dec_class dec_below ℕ_discrete dec_le dec_lt no_port no_call no_component component class delay
    input_count output_count instance_count invocation_count argument_count connection_count input output made_of call instance invoked offset
    argument connection takes gives dec_port_range dec_source_range dec_contains dec_invocations dec_arguments dec_connections dec_ranges dec_whole
    dec_counts dec_there dec_references dec_wide dec_widths dec_intervals dec_spacing dec_span dec_ready dec_reading dec_rules dec_lawful
is_lawful D = decided (dec_lawful D)

pub lawful_exactly : (D : Design) → T (is_lawful D) ↔ Lawful D
unfolding is_lawful
lawful_exactly D = (decided_holds (dec_lawful D), holds_decided (dec_lawful D))
