-- n covers what it is the greatest of, and is the least that does. Everything else of n follows from these two.
-- Assumes nothing.
use Rattle.std.specs.Prelude.{ℕ, ◌+◌, ◌≤◌, ◌<◌, ◌≡◌, refl, List, ◌++◌}
use mathlib.Core.List.Memᴰ
use Rattle.std.proofs.Math.Logic.{⊎_elim}
use Rattle.std.proofs.Common.{arith}
use Rattle.timeline.specs.Design.{Design, input_count, output_count, invocation_count, input, invoked, offset}
use Rattle.timeline.specs.Flat.{join_below}
use Rattle.timetable.specs.Lists.{Has, list_below}
use Rattle.timetable.specs.States.{own_ends, invocation_ends, states, Covers}
use Rattle.timetable.proofs.Lists.{in_join, to_join, in_list, to_list, greatest_above, greatest_least}

module _ (D : Design) (c : ℕ) where
  abbrev own_input_ends : List ℕ
  own_input_ends = list_below (input_count D c) (λ i. (input D c i).end)

  abbrev input_ends : ℕ → List ℕ
  input_ends j = list_below (input_count D (invoked D c j)) (λ i. offset D c j + (input D (invoked D c j) i).end)

  of_own : {e : ℕ} → Has (own_ends D c) e → e ≤ states D c
  unfolding states
  of_own m = greatest_above (Memᴰ.tail (Memᴰ.append_left (join_below (invocation_count D c) (invocation_ends D c)) m))

  of_invocation : {e : ℕ} (j : ℕ) → j < invocation_count D c → Has (invocation_ends D c j) e → e ≤ states D c
  unfolding states
  of_invocation j l m = greatest_above (Memᴰ.tail (Memᴰ.append_right (own_ends D c) (to_join (invocation_count D c) (invocation_ends D c) j l m)))

  pub states_cover : Covers D c (states D c)
  unfolding states own_ends invocation_ends
  states_cover =
      record {
        one = greatest_above (Memᴰ.head refl);
        own_inputs = λ i l. of_own (Memᴰ.append_left _ (to_list (input_count D c) _ i l refl));
        own_outputs = λ o l. of_own (Memᴰ.append_right own_input_ends (to_list (output_count D c) _ o l refl));
        starts = λ j l. of_invocation j l (Memᴰ.head refl);
        inputs = λ j l i k. of_invocation j l (Memᴰ.tail (Memᴰ.append_left _ (to_list (input_count D (invoked D c j)) _ i k refl)));
        outputs = λ j l o k. of_invocation j l (Memᴰ.tail (Memᴰ.append_right (input_ends j) (to_list (output_count D (invoked D c j)) _ o k refl)));
      }

  module _ (m : ℕ) (h : Covers D c m) where
    own_most : {e : ℕ} → Has (own_ends D c) e → e ≤ m
    unfolding own_ends
    own_most k =
        ⊎_elim
        (λ a. let r = in_list (input_count D c) _ a in rw r.2 (h.own_inputs r.0 r.1))
        (λ a. let r = in_list (output_count D c) _ a in rw r.2 (h.own_outputs r.0 r.1))
        (Memᴰ.append_cases own_input_ends k)

    invocation_most : {e : ℕ} (j : ℕ) → j < invocation_count D c → Has (invocation_ends D c j) e → e ≤ m
    unfolding invocation_ends
    invocation_most j l k =
        ⊎_elim
        (λ e. rw e (h.starts j l))
        (λ a. ⊎_elim
        (λ b. let r = in_list (input_count D (invoked D c j)) _ b in rw r.2 (h.inputs j l r.0 r.1))
        (λ b. let r = in_list (output_count D (invoked D c j)) _ b in rw r.2 (h.outputs j l r.0 r.1))
        (Memᴰ.append_cases (input_ends j) a))
        (Memᴰ.cases_cons k)

    pub states_least : states D c ≤ m
    unfolding states
    states_least = greatest_least m _ (λ e k. ⊎_elim (λ q. rw q h.one) (rest e) (Memᴰ.cases_cons k))
      where
        rest : (e : ℕ) → Has (own_ends D c ++ join_below (invocation_count D c) (invocation_ends D c)) e → e ≤ m
        rest e k =
            ⊎_elim own_most
            (λ a. let r = in_join (invocation_count D c) (invocation_ends D c) a in invocation_most r.0 r.1 r.2)
            (Memᴰ.append_cases (own_ends D c) k)

    -- So a number that covers them, and is not above n, is n.
    pub states_only : m ≤ states D c → m ≡ states D c
    states_only l = let k = states_least in omega arith
