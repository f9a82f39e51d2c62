-- The numbers of today's table rise, so that the first rule broken is the lowest.
-- Assumes nothing.
use Rattle.std.specs.Prelude.{ℕ, ◌≤◌, List, [], ◌∷◌, get_or}
use Rattle.std.proofs.Common.{inl, inr, ⊎_elim, arith}
use Rattle.entry.specs.Records.{input, output, instance, invocation, argument, connection, Record, wrong, component, part}
use Rattle.entry.specs.Entered.{Entered, nothing, after}
use Rattle.entry.specs.Asks.{Asks, asks, ending}
use Rattle.entry.specs.Answers.{Broken, FirstBroken, before, Breaks, BreaksFirst}

-- Each number is at least k and at least those before it.
abbrev Rising : ℕ → Asks → Type 0
Rising k [] = Unit
Rising k (a ∷ rest) = (k ≤ a.0) × Rising a.0 rest

asks_rise : (e : Entered) (r : Record) → Rising 0 (asks e r)
asks_rise nothing wrong = omega arith
asks_rise nothing (component k d) = omega arith
asks_rise nothing (part x) = omega arith
asks_rise (after E C) wrong = omega arith
asks_rise (after E C) (component k d) = omega arith
asks_rise (after E C) (part (input p)) = omega arith
asks_rise (after E C) (part (output p)) = omega arith
asks_rise (after E C) (part (instance n)) = omega arith
asks_rise (after E C) (part (invocation v)) = omega arith
asks_rise (after E C) (part (argument s)) = omega arith
asks_rise (after E C) (part (connection s)) = omega arith

ending_rises : (e : Entered) → Rising 0 (ending e)
ending_rises nothing = omega arith
ending_rises (after E C) = omega arith

at_least : (k : ℕ) (l : Asks) → Rising k l → (m : ℕ) → Broken l m → k ≤ m
unfolding Broken
at_least k [] r m b = absurd b
at_least k (a ∷ l) r m b =
    ⊎_elim (λ x. let y = r.0 in let z = x.0 in omega arith) (λ x. let y = r.0 in let z = at_least a.0 l r.1 m x in omega arith) b

first_least : (k : ℕ) (l : Asks) → Rising k l → (n m : ℕ) → FirstBroken l n → Broken l m → n ≤ m
unfolding FirstBroken Broken
first_least k [] r n m f b = absurd f
first_least k (a ∷ l) r n m f b =
    ⊎_elim
    (λ x. let z = x.0 in ⊎_elim (λ y. let w = y.0 in omega arith) (λ y. let w = at_least a.0 l r.1 m y in omega arith) b)
    (λ x. ⊎_elim (λ y. absurd (y.1 x.0)) (first_least a.0 l r.1 n m x.1) b)
    f

pub first_lowest : (rs : List Record) (p n m : ℕ) → BreaksFirst rs p n → Breaks rs p m → n ≤ m
first_lowest rs p n m (inl x) (inl y) = first_least 0 _ (asks_rise (before rs p) (get_or rs p wrong)) n m x.1 y.1
first_lowest rs p n m (inl x) (inr y) = let a = x.0 in let b = y.0 in absurd (omega arith)
first_lowest rs p n m (inr x) (inl y) = let a = x.0 in let b = y.0 in absurd (omega arith)
first_lowest rs p n m (inr x) (inr y) = first_least 0 _ (ending_rises (before rs p)) n m x.1 y.1
