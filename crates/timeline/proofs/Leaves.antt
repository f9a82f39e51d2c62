-- The leaves of a component on a way down are listed each once, each at its place.
-- Depth first, a leaf stands behind those of the parts before its own: by induction on the depth, with `Joins` for one level.
-- Assumes nothing.
use Rattle.std.specs.Prelude.{ℕ, zero, suc, ◌+◌, ◌<◌, ◌≡◌, refl, length, get_or}
use Rattle.std.proofs.Math.Path.{sym}
use Rattle.std.proofs.Common.{ap, ◌∙◌, arith}
use mathlib.Core.List.{List, [], ◌∷◌}
use Rattle.timeline.specs.Design.{Design, Class, leaf, built, class}
use Rattle.timeline.specs.Paths.{Way, along, PathOn}
use Rattle.timeline.specs.Flat.{join_below, leaf_count, count_before, leaves_to, leaves, LeafPath, place, InOrder}
use Rattle.timeline.proofs.Down.{Descent, path_there, path_lower, path_built}
use Rattle.timeline.proofs.Joins.{sum_same, before, join_place, in_join}
use Rattle.timeline.proofs.Depth.{length_leaves, count_depth}

-- The path p, with the numbers of e, outermost first, further down.
abbrev further : List ℕ → List ℕ → List ℕ
further [] p = p
further (n ∷ e) p = further e (n ∷ p)

from_top : (q : List ℕ) → (e : List ℕ) × (further e [] ≡ q)
from_top q = go q []
  where
    go : (q e : List ℕ) → (e' : List ℕ) × (further e' [] ≡ further e q)
    go [] e = (e, refl)
    go (n ∷ q) e = go q (n ∷ e)

module _ (D : Design) (W : Way) (f c : ℕ) (p : List ℕ) where
  -- The lists of the parts of c, p being the path to c.
  abbrev parts_below : ℕ → List (List ℕ)
  parts_below n = leaves_to D W f (W.part c n) (n ∷ p)

  leaves_leaf : class D c ≡ leaf → leaves_to D W (suc f) c p ≡ p ∷ []
  unfolding leaves_to
  leaves_leaf e = rw e

  leaves_built : class D c ≡ built → leaves_to D W (suc f) c p ≡ join_below (W.parts c) parts_below
  unfolding leaves_to
  leaves_built e = rw e

module _ (D : Design) (W : Way) (top : ℕ) (p : List ℕ) (l : List (List ℕ)) where
  -- What stands at i in the list l of the leaves below p is a path to a leaf, and its place is i behind p's.
  record ListedAt (i : ℕ) : Type 0 where
    pub leaf_path : LeafPath D W top (get_or l i [])
    pub its_place : place D W top (get_or l i []) ≡ place D W top p + i

  -- The path q stands in it, and its place is as far behind p's.
  record StandsAt (q : List ℕ) : Type 0 where
    pub index : ℕ
    pub index_below : index < length l
    pub its_place : place D W top q ≡ place D W top p + index
    pub is : get_or l index [] ≡ q

module _ {D : Design} {W : Way} {top : ℕ} (d : Descent D W top) where
  path_part : (e p : List ℕ) → PathOn W top (further e p) → PathOn W top p
  path_part [] p w = w
  path_part (n ∷ e) p w = (path_part e (n ∷ p) w).1

  -- The leaves before part n are counted as they are listed.
  counted_before : (f c : ℕ) (p : List ℕ) → c < length D → c < suc f → (n : ℕ) → n < W.parts c → count_before D W c n ≡ before (parts_below D W f c p) n
  unfolding count_before
  counted_before f c p h l n k =
      sum_same n _ _ (λ m v. let b = d.lower c h m (omega arith) in
      sym (count_depth d f (W.part c m) (omega arith) (omega arith)) ∙ sym (length_leaves D W f (W.part c m) (m ∷ p)))

  listed_at : (f : ℕ) (p : List ℕ) → PathOn W top p → along W top p < f → (i : ℕ) → i < length (leaves_to D W f (along W top p) p)
      → ListedAt D W top p (leaves_to D W f (along W top p) p) i
  listed_at zero p w l i m = absurd (omega arith)
  listed_at (suc f) p w l i m = go (class D c) refl (λ n v. listed_at f (n ∷ p) (v, w) (let b = path_lower d n p (v, w) in omega arith))
    where
      c : ℕ
      c = along W top p

      F : ℕ → List (List ℕ)
      F = parts_below D W f c p

      go : (k : Class) → class D c ≡ k → ((n : ℕ) → n < W.parts c → (k : ℕ) → k < length (F n) → ListedAt D W top (n ∷ p) (F n) k)
          → ListedAt D W top p (leaves_to D W (suc f) c p) i
      go leaf e r =
          let z = leaves_leaf D W f c p e in
          let o : i ≡ 0 = let v : i < length (p ∷ []) = rw z at m in omega arith in
          rw (z, o) (record { leaf_path = record { path = w; to_leaf = e }; its_place = omega arith })
      go built e r =
          let z = leaves_built D W f c p e in
          let v = in_join [] F (W.parts c) i (rw z at m) in
          let b = counted_before f c p (path_there d p w) l v.part v.part_below in
          let s = r v.part v.part_below v.at_place v.place_below in
          rw z (record { leaf_path = rw v.is s.leaf_path; its_place = rw v.is (omega (arith, s.its_place, v.index)) })

  stands_at : (f : ℕ) (e p : List ℕ) → LeafPath D W top (further e p) → along W top p < f
      → StandsAt D W top p (leaves_to D W f (along W top p) p) (further e p)
  stands_at zero e p h l = absurd (omega arith)
  stands_at (suc f) [] p h l =
      rw (leaves_leaf D W f (along W top p) p h.to_leaf) (record { index = 0; index_below = omega arith; its_place = omega arith; is = refl })
  stands_at (suc f) (n ∷ e) p h l =
      let w : PathOn W top (n ∷ p) = path_part e (n ∷ p) h.path in
      let c = along W top p in
      let b = path_lower d n p w in
      let s = stands_at f e (n ∷ p) h (omega arith) in
      let v = join_place [] (parts_below D W f c p) (W.parts c) n s.index w.0 s.index_below in
      let k = counted_before f c p (path_there d p w.1) l n w.0 in
      rw (leaves_built D W f c p (path_built d n p w))
      (record {
        index = before (parts_below D W f c p) n + s.index;
        index_below = v.below;
        its_place = omega (arith, s.its_place);
        is = v.is ∙ s.is;
      })

  placed_further : (e : List ℕ) → LeafPath D W top (further e [])
      → (place D W top (further e []) < leaf_count D W top) × (get_or (leaves D W top) (place D W top (further e [])) [] ≡ further e [])
  unfolding leaves leaf_count
  placed_further e h =
      let s = stands_at (suc top) e [] h (omega arith) in
      let k : place D W top (further e []) ≡ s.index = omega (arith, s.its_place) in
      (omega (arith, s.index_below, length_leaves D W (suc top) top []), rw k s.is)

  pub in_order : InOrder D W top
  unfolding leaves leaf_count
  in_order =
      record {
        counted = length_leaves D W (suc top) top [];
        listed = λ i l. let s = listed_at (suc top) [] tt (omega arith) i (omega (arith, length_leaves D W (suc top) top [])) in
            (s.leaf_path, omega (arith, s.its_place));
        placed = λ p h. let (e, x) = from_top p in rw (← x) (placed_further e (rw x h));
      }

  -- Leaves are told apart by their places.
  pub place_tells : (p q : List ℕ) → LeafPath D W top p → LeafPath D W top q → place D W top p ≡ place D W top q → p ≡ q
  place_tells p q h k e = sym (in_order.placed p h).1 ∙ ap (λ i. get_or (leaves D W top) i []) e ∙ (in_order.placed q k).1
