-- The tests of a reader that fits mean what the rules ask of a record.
-- Assumes nothing.
use Rattle.std.specs.Prelude.{ℕ, ◌+◌, ◌^◌, ◌≤◌, ◌<◌, ◌&&◌, ◌≡◌, refl, List, [], ◌∷◌, ◌++◌, length, get_or, ltb, leb}
use Rattle.std.proofs.Common.{sym, ap, ◌∙◌, arith}
use Rattle.timeline.specs.Design.{Component, Call, Port, Source, own, output_of, constant, no_port}
use Rattle.timeline.specs.Rules.{Contains}
use Rattle.entry.specs.Lists.{add_last}
use Rattle.entry.specs.Records.{Part, input, output, instance, invocation, argument, connection, Record, records}
use Rattle.entry.specs.Asks.{made_of, call, invoked, takes, gives, argument_count, last, next_input, next_output, There, Wide, Apart, Spans, Ready, part_asks}
use Rattle.entry.specs.Asks as A
use Rattle.entry.proofs.Laws.{Good}
use Rattle.reading.specs.Tests.{Means, means_always, means_as, means_both, means_if, means_either, means_equal, means_below, means_most, means_every}
use Rattle.reading.specs.Scan.{Agree}
use Rattle.reading.specs.Reader.{Reader, contains, source_tests, stands_apart, within_span, part_tests}
use Rattle.reading.specs.Reads.{Looks}
use Rattle.reading.proofs.Placed.{means_place}
use Rattle.reading.proofs.Fits.{invoked_number, Fits}
use Rattle.reading.proofs.Looked.{own_input, own_output, earlier_input, earlier_output}

means_contains : (p : Port) (a : ℕ) (q : Port) (b : ℕ) → Means (contains p a q b) (Contains p a q b)
means_contains p a q b =
    means_as (λ h. record { from = h.0; upto = h.1 }) (λ c. (c.from, c.upto)) (means_both (means_most (a + p.start) (b + q.start)) (means_most (b + q.end) (a + p.end)))

module _ (file : List Record) (look : ℕ → Port) (looks : Looks file look) (E : List Component) (C : Component) (r : Reader)
    (good : Good E C) (fits : Fits E C r) (rest : List Record) (w : file ≡ records (add_last E C) ++ rest) where
  lower : (n : ℕ) → n < length C.instances → get_or C.instances n 0 < length E
  lower n l = (good.instances n l).1

  -- The component of an invocation is one of those before.
  invoked_lower : (j : ℕ) → j < length C.calls → invoked_number E C j < length E
  invoked_lower j l = lower (call E C j).instance (good.calls.0 j l).1

  -- What is looked up for an output of invocation j, and for the input that the next argument feeds.
  look_output : (j o : ℕ) → j < length C.calls → o < length (invoked E C j).outputs → look (r.output_record j + o) ≡ gives E C j o
  look_output j o l k =
      rw (fits.calls j l).output_record (earlier_output file look looks E C rest w (invoked_number E C j) (invoked_lower j l) o k)

  look_own : (i : ℕ) → i < length C.inputs → look (r.first + 1 + i) ≡ get_or C.inputs i no_port
  look_own i l = rw fits.first (own_input file look looks E C rest w i l)

  -- The outputs are counted right where the invocation is there.
  means_there : (n j o : ℕ) → n ≤ length C.calls → Means (ltb j n && ltb o (r.outputs j)) ((j < n) × (o < length (invoked E C j).outputs))
  means_there n j o l =
      means_as (λ t. let a = t.0 in let b = t.1 in let e = (fits.calls j (omega arith)).outputs in (a, omega arith))
      (λ t. let a = t.0 in let b = t.1 in let e = (fits.calls j (omega arith)).outputs in (a, omega arith))
      (means_both (means_below j n) (means_below o (r.outputs j)))

  agree_source : (n : ℕ) (x : Source) (q : Port) (k : ℕ) → n ≤ length C.calls → Agree ((7, There E C n x) ∷ (8, Wide E C x q) ∷ (12, Ready E C x q k) ∷ []) (source_tests look r n x q k)
  agree_source n (own i) q k l = (
    refl,
    rw fits.stands.counts.inputs (means_below i (length C.inputs)),
    λ t. (
      refl,
      rw (look_own i t) (means_equal (get_or C.inputs i no_port).width q.width),
      λ u. (refl, rw (look_own i t) (means_contains (get_or C.inputs i no_port) 0 q k), λ v. tt),
    ),
  )
  agree_source n (output_of j o) q k l = (
    refl,
    means_there n j o l,
    λ t.
        let m : j < length C.calls = let z = t.0 in omega arith in (
          refl,
          rw (look_output j o m t.1) (means_equal (gives E C j o).width q.width),
          λ u. (refl, rw (look_output j o m t.1, (fits.calls j m).offset) (means_contains (gives E C j o) (call E C j).offset q k), λ v. tt),
        ),
  )
  agree_source n (constant v) q k l = (refl, means_always, λ t. (refl, means_below v (2 ^ q.width), λ u. (refl, means_always, λ a. tt)))

  -- The same, for a number n that a reader has kept as m.
  agree_source_of : (m n : ℕ) (x : Source) (q : Port) (k : ℕ) → m ≡ n → n ≤ length C.calls → Agree ((7, There E C n x) ∷ (8, Wide E C x q) ∷ (12, Ready E C x q k) ∷ []) (source_tests look r m x q k)
  agree_source_of m n x q k e l = rw e (agree_source n x q k l)

  -- An invocation v of an instance that is there; d is what it takes.
  module _ (v : Call) (there : v.instance < length C.instances) where
    abbrev d : ℕ
    d = (r.held v.instance).delay

    taken : takes E C v ≡ d
    taken = sym (fits.held v.instance there).delay

    module _ (j : ℕ) (l : j < length C.calls) where
      -- Of the same instance, the same delay.
      taken_too : (call E C j).instance ≡ v.instance → takes E C (call E C j) ≡ d
      taken_too e = ap (λ n. (made_of E C n).delay) e ∙ taken

      means_apart : Means (stands_apart look r v.instance v.offset d j) (Apart E C (call E C j) v)
      means_apart =
          let c = fits.calls j l in
          let k = (call E C j).offset in
          rw (c.instance, c.offset) (
          means_as (λ f e. rw (taken_too e, taken) (f e)) (λ f e. rw (taken_too e, taken) at (f e))
          (means_if (means_equal (call E C j).instance v.instance) (means_either (means_most (k + d) v.offset) (means_most (v.offset + d) k))))

      means_spans : Means (within_span look r v.instance v.offset d j) (Spans E C (call E C j) v × Spans E C v (call E C j))
      means_spans =
          let c = fits.calls j l in
          let k = (call E C j).offset in
          rw (c.instance, c.offset, fits.delay) (
          means_as (λ f. (λ e. rw taken (f e).0, λ e. rw (taken_too (sym e)) (f (sym e)).1)) (λ f e. (rw taken at (f.0 e), rw (taken_too e) at (f.1 (sym e))))
          (means_if (means_equal (call E C j).instance v.instance) (means_both (means_most (v.offset + d) (k + C.delay)) (means_most (k + d) (v.offset + C.delay)))))

    means_alone : Means (leb d r.delay) (Spans E C v v)
    means_alone = rw fits.delay (means_as to from (means_most d C.delay))
      where
        to : d ≤ C.delay → Spans E C v v
        to h e = rw taken (omega arith)

        from : Spans E C v v → d ≤ C.delay
        from h = let z = rw taken at (h refl) in omega arith

  agree_invocation : (v : Call) → Agree (part_asks E C (invocation v)) (part_tests look r (invocation v))
  agree_invocation v = (
    refl,
    means_place E C r.place fits.stands (invocation v),
    λ p. (
      refl,
      rw fits.stands.counts.invocations (means_below (length C.calls) 64),
      λ f. (
        refl,
        rw fits.stands.counts.instances (means_below v.instance (length C.instances)),
        λ l. (
          refl,
          rw fits.stands.counts.invocations (means_every _ (λ j. Apart E C (call E C j) v) (length C.calls) (means_apart v l)),
          λ a. (
            refl,
            means_both (means_alone v l) (rw fits.stands.counts.invocations (means_every _ (λ j. Spans E C (call E C j) v × Spans E C v (call E C j)) (length C.calls) (means_spans v l))),
            λ s. tt,
          ),
        ),
      ),
    ),
  )

  agree_argument : (x : Source) → Agree (part_asks E C (argument x)) (part_tests look r (argument x))
  agree_argument x = (
    refl,
    means_place E C r.place fits.stands (argument x),
    λ p. rw ((right p).0, (right p).1) (
        let z = fits.stands.counts.invocations in
        agree_source_of _ (last E C) x (next_input E C) (call E C (last E C)).offset (omega arith) (omega arith)),
  )
    where
      right : A.Place E C (argument x) → (look r.input_record ≡ next_input E C) × (r.due_offset ≡ (call E C (last E C)).offset)
      right (b, some, lacks, none) =
          let j = last E C in
          let l : j < length C.calls = omega arith in
          let y = fits.stands.latest j (omega arith) in
          let f = fits.due j (omega arith) (omega arith) in
          (rw f.input_record (earlier_input file look looks E C rest w (invoked_number E C j) (invoked_lower j l) (argument_count E C j) lacks), f.offset)

  agree_connection : (x : Source) → Agree (part_asks E C (connection x)) (part_tests look r (connection x))
  agree_connection x = (
    refl,
    means_place E C r.place fits.stands (connection x),
    λ p. rw (right p) (agree_source_of _ (length C.calls) x (next_output E C) 0 fits.stands.counts.invocations (omega arith)),
  )
    where
      right : A.Place E C (connection x) → look (r.first + 1 + r.place.inputs + r.place.connections) ≡ next_output E C
      right p = rw (fits.first, fits.stands.counts.inputs, fits.stands.counts.connections) (own_output file look looks E C rest w (length C.connections) p.2)

  pub agree_part : (x : Part) → Agree (part_asks E C x) (part_tests look r x)
  agree_part (input p) = (
    refl,
    means_place E C r.place fits.stands (input p),
    λ a. (refl, rw fits.stands.counts.inputs (means_below (length C.inputs) 16), λ b. (refl, rw fits.delay (means_most p.end (p.start + C.delay)), λ c. tt)),
  )
  agree_part (output p) = (
    refl,
    means_place E C r.place fits.stands (output p),
    λ a. (refl, rw fits.stands.counts.outputs (means_below (length C.outputs) 16), λ b. (refl, rw fits.delay (means_most p.end (p.start + C.delay)), λ c. tt)),
  )
  agree_part (instance n) = (
    refl,
    means_place E C r.place fits.stands (instance n),
    λ a. (refl, rw fits.stands.counts.instances (means_below (length C.instances) 32), λ b. (refl, rw fits.number (means_below n (length E)), λ c. tt)),
  )
  agree_part (invocation v) = agree_invocation v
  agree_part (argument x) = agree_argument x
  agree_part (connection x) = agree_connection x
