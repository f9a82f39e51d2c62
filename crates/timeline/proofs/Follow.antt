-- Following a source ends where something is promised.
-- Up an argument the path gets shorter; down a connection the component gets lower; and an argument names earlier invocations only.
-- So `sources` recurses on the component, and inside it on the number of the invocation.
-- Assumes nothing.
use Rattle.std.specs.Prelude.{ℕ, zero, suc, ◌+◌, ◌<◌, ◌≡◌, refl, List, [], ◌∷◌, length}
use Rattle.std.proofs.Common.{arith}
use Rattle.timeline.specs.Design.{Design, Source, own, output_of, constant, Class, leaf, built, class, input_count, output_count, invocation_count, input}
use Rattle.timeline.specs.Design.{output, argument, connection, gives}
use Rattle.timeline.specs.Rules.{Holds}
use Rattle.timeline.specs.Uses.{End, at_constant, at_input, at_output, reach, PathOf, after, From, here_constant, here_input, here_output, up, down}
use Rattle.timeline.specs.Uses.{Promised, Found}
use Rattle.timeline.proofs.Takes.{gives_built}
use Rattle.timeline.proofs.Down.{Started, path_lower, invocations_down, use_there}
use Rattle.timeline.proofs.Once.{input_once, output_once}
use Rattle.timeline.proofs.Offered.{Offered, offered_more, argument_offered, connection_offered}
use Rattle.timeline.proofs.OneEnd.{one_end}

-- An end that is promised is all there is to find.
found_at : (D : Design) (top : ℕ) (S : ℕ → Type 0) (t : ℕ) (p : List ℕ) (s : Source) (x : ℕ) (e : End)
    → From D top p s e → Promised D top S t x e → Found D top S t p s x
found_at D top S t p s x e f h = record { end = e; from = f; one_end = λ e' f'. one_end f' f; promised = h }

module _ {D : Design} {top : ℕ} {S : ℕ → Type 0} (g : Started D top S) (t : ℕ) (s : S t) where
  -- Every input of the use p, and every source of invocations before number n in it, is found in each cycle in which it is promised.
  abbrev InputsFound : List ℕ → Type 0
  InputsFound p = (i x : ℕ) → i < input_count D (reach D top p) → Holds (input D (reach D top p) i) (t + after D top p) x → Found D top S t p (own i) x

  abbrev SourcesFound : List ℕ → ℕ → Type 0
  SourcesFound p n = (r : Source) (x : ℕ) → Offered D (reach D top p) n r (t + after D top p) x → Found D top S t p r x

  inputs_inside : (p : List ℕ) (j : ℕ) → PathOf D top (j ∷ p) → SourcesFound p j → InputsFound (j ∷ p)
  inputs_inside p j w found i x l h =
      let f = found (argument D (reach D top p) j i) x (argument_offered g.placed t p j i x w l h) in
      found_at D top S t (j ∷ p) (own i) x f.end (up f.from) f.promised

  -- A leaf's output is promised by the use itself, and a built component's is found where its connection's source is.
  output_found : (p : List ℕ) (j o x : ℕ) → PathOf D top (j ∷ p) → o < output_count D (reach D top (j ∷ p))
      → Holds (gives D (reach D top p) j o) (t + after D top (j ∷ p)) x
      → SourcesFound (j ∷ p) (invocation_count D (reach D top (j ∷ p))) → Found D top S t p (output_of j o) x
  output_found p j o x w l h found = go (class D c) refl
    where
      c : ℕ
      c = reach D top (j ∷ p)

      go : (k : Class) → class D c ≡ k → Found D top S t p (output_of j o) x
      go leaf e =
          found_at D top S t p (output_of j o) x (at_output (j ∷ p) o) (here_output e)
          (record {
            path = w;
            to_leaf = e;
            there = l;
            holds = h;
            only = λ t' q s' v u k. output_once g t t' (j ∷ p) q x s s' w v u o l h k;
          })
      go built e =
          let k : Holds (output D c o) (t + after D top (j ∷ p)) x = rw (gives_built D (reach D top p) j o e) at h in
          let f = found (connection D c o) x (connection_offered g.placed t (j ∷ p) o x w e l k) in
          found_at D top S t p (output_of j o) x f.end (down e f.from) f.promised

  -- In a component below number m + 1, where its inputs are found and so are the sources in components below m.
  sources_inside : (m : ℕ) → ((p : List ℕ) → PathOf D top p → reach D top p < m → InputsFound p → SourcesFound p (invocation_count D (reach D top p)))
      → (p : List ℕ) → PathOf D top p → reach D top p < suc m → InputsFound p → (n : ℕ) → SourcesFound p n
  sources_inside m lower p w l found zero (own i) x h = found i x h.0 h.1
  sources_inside m lower p w l found zero (output_of j o) x h = absurd (omega arith)
  sources_inside m lower p w l found zero (constant v) x h = found_at D top S t p (constant v) x (at_constant v) here_constant tt
  sources_inside m lower p w l found (suc n) (own i) x h = found i x h.0 h.1
  sources_inside m lower p w l found (suc n) (constant v) x h = found_at D top S t p (constant v) x (at_constant v) here_constant tt
  sources_inside m lower p w l found (suc n) (output_of j o) x h =
      let v : PathOf D top (j ∷ p) = (h.1, w) in
      let b = path_lower (invocations_down g.placed) j p v in
      let earlier : SourcesFound p j = λ r y k. sources_inside m lower p w l found n r y (offered_more D (reach D top p) j n r _ y (omega arith) k) in
      output_found p j o x v h.2 (omega arith) (lower (j ∷ p) v (omega arith) (inputs_inside p j v earlier))

  sources : (m : ℕ) (p : List ℕ) → PathOf D top p → reach D top p < m → InputsFound p → (n : ℕ) → SourcesFound p n
  sources zero p w l found n = absurd (omega arith)
  sources (suc m) p w l found n = sources_inside m (λ q v k f. sources m q v k f (invocation_count D (reach D top q))) p w l found n

  pub inputs_found : (p : List ℕ) → PathOf D top p → InputsFound p
  inputs_found [] w i x l h =
      found_at D top S t [] (own i) x (at_input i) here_input
      (record { there = l; holds = omega arith; only = λ t' s' k. (input_once g t t' [] [] x s s' w w refl i l h (omega arith)).0 })
  inputs_found (j ∷ p) w i x l h = inputs_inside p j w (sources (length D) p w.1 (use_there g.placed p w.1) (inputs_found p w.1) j) i x l h

  -- Everything that is offered is found.
  pub offered_found : (p : List ℕ) → PathOf D top p → SourcesFound p (invocation_count D (reach D top p))
  offered_found p w = sources (length D) p w (use_there g.placed p w) (inputs_found p w) (invocation_count D (reach D top p))
