-- The laws of the rows, for whoever writes them or speaks of them.
-- The rows of a component are those of its leaf uses, in order; every other law follows from that of the uses.
-- Assumes nothing.
use Prim.Native.Nat.{ℕ, zero, suc, ◌+◌, ◌*◌, ◌≤◌, ◌<◌}
use Rattle.std.specs.Prelude.{◌≡◌, get_or}
use Rattle.std.proofs.Math.Path.{refl, sym, ap, ap₂, fun_ext}
use Rattle.std.proofs.Common.{◌∙◌, add-zero, zero-add, arith}
use mathlib.Core.List.{List, [], ◌∷◌, map}
use Rattle.std.proofs.Math.ListN.{length, length-map}
use Rattle.timeline.specs.Design.{Design, leaf, built, class, invocation_count, instance_count, made_of, instance, invoked, offset}
use Rattle.timeline.specs.Rules.{Lawful}
use Rattle.timeline.specs.Paths.{by_invocations, by_instances}
use Rattle.timeline.specs.Uses.{reach, PathOf, unit, after}
use Rattle.timeline.specs.Flat.{sum_below, join_below, leaf_count, count_before, leaves_to, leaves, LeafPath, place, Row, row_count}
use Rattle.timeline.specs.Flat.{unit_count, units_before, rows_to, rows_from, rows, uses, unit_number, row_of}
use Rattle.timeline.proofs.Down.{Placed, instances_down, invocations_down, path_lower, use_ranges, unit_component, unit_path}
use Rattle.timeline.proofs.Joins.{by_class_map, join_same, map_join, getD_map_below}
use Rattle.timeline.proofs.Depth.{length_leaves, leaves_depth, count_leaf, count_built}
use Rattle.timeline.proofs.Leaves.{in_order}

no_length : {A : Type 0} (l : List A) → length l ≡ 0 → l ≡ []
no_length [] h = refl
no_length (x ∷ l) h = absurd (omega arith)

module _ (D : Design) (top t u : ℕ) where
  -- The row of the use p, the top being begun in cycle t and its units numbered from u.
  unfoldable pub row_from : List ℕ → Row
  row_from p = record { cycle = t + after D top p; unit = u + unit_number D top (unit D top p); component = reach D top p }

  -- One level down the units of the instances before come first.
  number_next : (p : List ℕ) (j : ℕ) → unit_number D top (unit D top p) + units_before D (reach D top p) j ≡ unit_number D top (unit D top (j ∷ p))
  unfolding units_before
  number_next p j = ap (λ c. unit_number D top (unit D top p) + count_before D (by_instances D) c (instance D (reach D top p) j)) (sym (unit_component D top p))

  rows_below : (f : ℕ) (p : List ℕ)
      → rows_to D f (reach D top p) (t + after D top p) (u + unit_number D top (unit D top p))
      ≡ map row_from (leaves_to D (by_invocations D) f (reach D top p) p)
  unfolding rows_to leaves_to row_from
  rows_below zero p = refl
  rows_below (suc f) p =
      by_class_map row_from (class D (reach D top p)) p _ _
      (join_same (invocation_count D (reach D top p)) _ _
      (λ j l. let n = number_next p j in ap₂ (rows_to D f (reach D top (j ∷ p))) (omega arith) (omega arith) ∙ rows_below f (j ∷ p))
      ∙ sym (map_join row_from (invocation_count D (reach D top p)) (λ j. leaves_to D (by_invocations D) f (reach D top (j ∷ p)) (j ∷ p))))

  rows_uses_to : (f : ℕ) → rows_to D f top t u ≡ map row_from (leaves_to D (by_invocations D) f top [])
  rows_uses_to f = rw (add-zero t, add-zero u) at (rows_below f [])

  pub rows_from_uses : rows_from D top t u ≡ map row_from (uses D top)
  unfolding rows_from leaves
  rows_from_uses = rows_uses_to (suc top)

module _ (D : Design) (c t u : ℕ) where
  pub rows_length : length (rows_from D c t u) ≡ row_count D c
  unfolding leaves leaf_count
  rows_length = ap length (rows_from_uses D c t u) ∙ length-map (uses D c) (row_from D c t u) ∙ length_leaves D (by_invocations D) (suc c) c []

  -- A component without rows adds nothing: to skip it changes nothing.
  pub rows_none : row_count D c ≡ 0 → rows_from D c t u ≡ []
  rows_none h = no_length (rows_from D c t u) (rows_length ∙ h)

  pub rows_leaf : class D c ≡ leaf → rows_from D c t u ≡ record { cycle = t; unit = u; component = c } ∷ []
  unfolding rows_from rows_to
  rows_leaf e = rw e

pub rows_of_uses : (D : Design) (top : ℕ) → rows D top ≡ map (row_of D top) (uses D top)
unfolding rows row_from row_of
rows_of_uses D top = rows_from_uses D top 0 0 ∙ ap (λ g. map g (uses D top)) (fun_ext (λ p. simp zero-add))

module _ {D : Design} (lawful : Lawful D) where
  here : (c : ℕ) → c < length D → Placed D c
  here c l = record { lawful = lawful; there = l }

  -- Any depth above the component gives the same rows.
  pub rows_depth : (f c t u : ℕ) → c < length D → c < f → rows_to D f c t u ≡ rows_from D c t u
  unfolding rows_from
  rows_depth f c t u h l =
      let e = leaves_depth (invocations_down (here c h)) f (suc c) c [] h l (omega arith) in
      rows_uses_to D c t u f ∙ ap (map (row_from D c t u)) e ∙ sym (rows_uses_to D c t u (suc c))

  -- "The list of a built component is the lists of its invocations joined in order, each with its offset added."
  pub rows_built : (c t u : ℕ) → c < length D → class D c ≡ built
      → rows_from D c t u ≡ join_below (invocation_count D c) (λ j. rows_from D (invoked D c j) (t + offset D c j) (u + units_before D c j))
  unfolding rows_from rows_to
  rows_built c t u h e =
      rw e (join_same (invocation_count D c) _ _ (λ j k. let b = (invocations_down (here c h)).lower c h j k in
      rows_depth c (invoked D c j) (t + offset D c j) (u + units_before D c j) (omega arith) b))

  module _ (c : ℕ) (h : c < length D) where
    pub row_count_leaf : class D c ≡ leaf → row_count D c ≡ 1
    row_count_leaf e = count_leaf (invocations_down (here c h)) c e

    pub row_count_built : class D c ≡ built → row_count D c ≡ sum_below (invocation_count D c) (λ j. row_count D (invoked D c j))
    row_count_built e = count_built (invocations_down (here c h)) c h e

    pub unit_count_leaf : class D c ≡ leaf → unit_count D c ≡ 1
    unit_count_leaf e = count_leaf (instances_down (here c h)) c e

    pub unit_count_built : class D c ≡ built → unit_count D c ≡ sum_below (instance_count D c) (λ n. unit_count D (made_of D c n))
    unit_count_built e = count_built (instances_down (here c h)) c h e

    pub units_before_sum : (j : ℕ) → units_before D c j ≡ sum_below (instance D c j) (λ n. unit_count D (made_of D c n))
    unfolding units_before count_before
    units_before_sum j = refl

  -- Each level adds an offset below 1,024, and there are fewer levels than the component's number.
  pub cycle_below : (top : ℕ) → top < length D → (p : List ℕ) → PathOf D top p → after D top p + 1024 * reach D top p ≤ 1024 * top
  cycle_below top h [] w = omega arith
  cycle_below top h (j ∷ p) w =
      let a = cycle_below top h p w.1 in
      let b = path_lower (invocations_down (here top h)) j p w in
      let k = ((use_ranges (here top h) p w.1).invocation_range j w.0).1 in
      omega arith

module _ {D : Design} {top : ℕ} (h : Placed D top) (p : List ℕ) (l : LeafPath D (by_invocations D) top p) where
  -- The row of a leaf use stands at the use's place.
  pub use_row : (d : Row) → get_or (rows D top) (place D (by_invocations D) top p) d ≡ row_of D top p
  use_row d =
      let o = in_order (invocations_down h) in
      let s = o.placed p l in
      rw (rows_of_uses D top)
      (getD_map_below (row_of D top) (uses D top) (place D (by_invocations D) top p) [] d (omega (arith, s.0, o.counted)) ∙ ap (row_of D top) s.1)

  -- And its unit is a leaf.
  pub unit_leaf : LeafPath D (by_instances D) top (unit D top p)
  unit_leaf = record { path = unit_path h p l.path; to_leaf = rw (unit_component D top p) l.to_leaf }
