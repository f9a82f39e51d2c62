-- How deep the expansion goes does not matter, and how many leaves there are: the sums from the bottom up.
-- A part has a lower number than its component, so any depth above the component's number reaches every leaf.
-- Assumes nothing.
use Prim.Native.Nat.{ℕ, zero, suc, ◌<◌}
use Rattle.std.specs.Prelude.{◌≡◌}
use Rattle.std.proofs.Math.Path.{refl, sym, ap}
use Rattle.std.proofs.Common.{◌∙◌, arith}
use mathlib.Core.List.{List, [], ◌∷◌}
use Rattle.std.proofs.Math.ListN.{length}
use Rattle.timeline.specs.Design.{Design, leaf, built, class}
use Rattle.timeline.specs.Paths.{Way}
use Rattle.timeline.specs.Flat.{sum_below, leaf_count_to, leaf_count, leaves_to}
use Rattle.timeline.proofs.Down.{Descent}
use Rattle.timeline.proofs.Joins.{by_class_same, by_class_length, sum_same, join_same, length_join}

module _ (D : Design) (W : Way) where
  pub length_leaves : (f c : ℕ) (p : List ℕ) → length (leaves_to D W f c p) ≡ leaf_count_to D W f c
  unfolding leaves_to leaf_count_to
  length_leaves zero c p = refl
  length_leaves (suc f) c p =
      by_class_length (class D c) p _ _
      (length_join (W.parts c) (λ n. leaves_to D W f (W.part c n) (n ∷ p)) ∙ sum_same (W.parts c) _ _ (λ n l. length_leaves f (W.part c n) (n ∷ p)))

module _ {D : Design} {W : Way} {top : ℕ} (d : Descent D W top) where
  -- Any depth above c gives the same.
  pub leaves_depth : (f g c : ℕ) (p : List ℕ) → c < length D → c < f → c < g → leaves_to D W f c p ≡ leaves_to D W g c p
  unfolding leaves_to
  leaves_depth zero g c p h l m = absurd (omega arith)
  leaves_depth (suc f) zero c p h l m = absurd (omega arith)
  leaves_depth (suc f) (suc g) c p h l m =
      by_class_same (class D c) (p ∷ []) _ _ (λ e. join_same (W.parts c) _ _
      (λ n k. let b = d.lower c h n k in leaves_depth f g (W.part c n) (n ∷ p) (omega arith) (omega arith) (omega arith)))

  pub count_depth : (f c : ℕ) → c < length D → c < f → leaf_count_to D W f c ≡ leaf_count D W c
  unfolding leaf_count
  count_depth f c h l = sym (length_leaves D W f c []) ∙ ap length (leaves_depth f (suc c) c [] h l (omega arith)) ∙ length_leaves D W (suc c) c []

  -- The counts from the bottom up.
  pub count_leaf : (c : ℕ) → class D c ≡ leaf → leaf_count D W c ≡ 1
  unfolding leaf_count leaf_count_to
  count_leaf c e = rw e

  pub count_built : (c : ℕ) → c < length D → class D c ≡ built → leaf_count D W c ≡ sum_below (W.parts c) (λ n. leaf_count D W (W.part c n))
  unfolding leaf_count leaf_count_to
  count_built c h e = rw e (sum_same (W.parts c) _ _ (λ n k. let b = d.lower c h n k in count_depth c (W.part c n) (omega arith) b))
