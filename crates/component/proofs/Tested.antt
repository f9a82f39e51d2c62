-- What the tests of a record look at: no row of the table, of the rows held that of the instance which it names; before the first record nothing.
-- Assumes nothing.
use Prim.Native.Nat.{ℕ, ◌<◌, ◌+◌}
use mathlib.Core.Bool.{Bool, true, false}
use mathlib.Core.Path.{◌≡◌, refl, ap, ◌∙◌}
use mathlib.Core.List.{List}
use lib.Dec.{ltb, ltb→lt}
use borrow.Author.Tests.{ltb-true, lt-ltb}
use Rattle.timeline.specs.Design.{Port, own, output_of, constant}
use Rattle.entry.specs.Records.{Part, input, output, instance, invocation, argument, connection, Record, wrong, component, part}
use Rattle.reading.specs.Reader as Reading
use Rattle.reading.specs.Reader.{Row, tests}
use Rattle.reading.specs.Reads.{Passes}
use Rattle.rules.specs.Failed.{first_failed}
use Rattle.order.specs.Seen.{closed}
use Rattle.reader.specs.declared.Reader.{Reader}
use Rattle.reader.specs.Rows.{none}
use Rattle.reader.specs.State.{State, state, viewed, part_went, holding, named}

module _ (look : ℕ → Port) where
  rows_unseen : (rows : ℕ → Row) (s : State) (x : Record) → first_failed (tests look (Reading.reads (viewed none s)) x) ≡ first_failed (tests look (Reading.reads (viewed rows s)) x)
  rows_unseen rows s wrong = refl
  rows_unseen rows s (component k d) = refl
  rows_unseen rows s (part (input p)) = refl
  rows_unseen rows s (part (output p)) = refl
  rows_unseen rows s (part (instance n)) = refl
  rows_unseen rows s (part (invocation v)) = refl
  rows_unseen rows s (part (argument (own i))) = refl
  rows_unseen rows s (part (argument (output_of j o))) = refl
  rows_unseen rows s (part (argument (constant v))) = refl
  rows_unseen rows s (part (connection (own i))) = refl
  rows_unseen rows s (part (connection (output_of j o))) = refl
  rows_unseen rows s (part (connection (constant v))) = refl

  -- w: the row of the instance that is named, if there is such an instance.
  module _ (h : ℕ → Row) (w : Row) (r : Reader) (i o u f : List ℕ) where
    same_tests : (x : Record) → (named x < r.place.instances → h (named x) ≡ w) → first_failed (tests look (Reading.reads (viewed none (state r (λ m. w) i o u f))) x) ≡ first_failed (tests look (Reading.reads (viewed none (state r h i o u f))) x)
    same_tests wrong e = refl
    same_tests (component k d) e = refl
    same_tests (part (input p)) e = refl
    same_tests (part (output p)) e = refl
    same_tests (part (instance n)) e = refl
    same_tests (part (invocation v)) e = go (ltb v.instance r.place.instances) refl
      where
        go : (b : Bool) → ltb v.instance r.place.instances ≡ b → first_failed (tests look (Reading.reads (viewed none (state r (λ m. w) i o u f))) (part (invocation v))) ≡ first_failed (tests look (Reading.reads (viewed none (state r h i o u f))) (part (invocation v)))
        go true q = rw (e (ltb-true _ _ q))
        go false q = rw q
    same_tests (part (argument (own j))) e = refl
    same_tests (part (argument (output_of j k))) e = refl
    same_tests (part (argument (constant v))) e = refl
    same_tests (part (connection (own j))) e = refl
    same_tests (part (connection (output_of j k))) e = refl
    same_tests (part (connection (constant v))) e = refl

    pub tests_as : (rows : ℕ → Row) (x : Record) → (named x < r.place.instances → h (named x) ≡ w) → first_failed (tests look (Reading.reads (viewed none (state r (λ m. w) i o u f))) x) ≡ first_failed (tests look (Reading.reads (viewed rows (state r h i o u f))) x)
    tests_as rows x e = same_tests x e ∙ rows_unseen rows (state r h i o u f) x

  -- Where only a component may stand, a record is refused as before the first.
  pub closed_tests : (s : State) (x : Record) → s.place ≡ closed → s.number + 1 < 64 → first_failed (tests look (Reading.reads (viewed none s)) x) ≡ first_failed (tests look Reading.waits x)
  closed_tests s wrong e l = refl
  closed_tests s (component k d) e l = rw (e, lt-ltb _ _ l)
  closed_tests s (part (input p)) e l = rw e
  closed_tests s (part (output p)) e l = rw e
  closed_tests s (part (instance n)) e l = rw e
  closed_tests s (part (invocation v)) e l = rw e
  closed_tests s (part (argument x)) e l = rw e
  closed_tests s (part (connection x)) e l = rw e

-- What is kept after a part, with what is held: the row of the instance that is named is that which was looked at.
abbrev pub LooksAt : (ℕ → Row) → Row → Part → Type 0
LooksAt h w (input p) = Unit
LooksAt h w (output p) = Unit
LooksAt h w (instance n) = Unit
LooksAt h w (invocation v) = h v.instance ≡ w
LooksAt h w (argument x) = Unit
LooksAt h w (connection x) = Unit

module _ (h : ℕ → Row) (w : Row) (r : Reader) (i o u f : List ℕ) where
  pub looks_at : (look : ℕ → Port) (y : Part) → (named (part y) < r.place.instances → h (named (part y)) ≡ w) → Passes (tests look (Reading.reads (viewed none (state r (λ m. w) i o u f))) (part y)) → LooksAt h w y
  looks_at look (input p) e t = tt
  looks_at look (output p) e t = tt
  looks_at look (instance n) e t = tt
  looks_at look (invocation v) e t = e (ltb→lt _ _ t.1.1.1.0)
  looks_at look (argument x) e t = tt
  looks_at look (connection x) e t = tt

  pub went_as : (q : Reader) (i' o' u' f' : List ℕ) (y : Part) → LooksAt h w y → state q (λ m. w) i' o' u' f' ≡ part_went (state r (λ m. w) i o u f) y → state q h i' o' u' f' ≡ part_went (state r h i o u f) y
  went_as q i' o' u' f' (input p) e g = ap (λ (z : State). holding z h) g
  went_as q i' o' u' f' (output p) e g = ap (λ (z : State). holding z h) g
  went_as q i' o' u' f' (instance n) e g = ap (λ (z : State). holding z h) g
  went_as q i' o' u' f' (invocation v) e g = rw e (ap (λ (z : State). holding z h) g)
  went_as q i' o' u' f' (argument x) e g = ap (λ (z : State). holding z h) g
  went_as q i' o' u' f' (connection x) e g = ap (λ (z : State). holding z h) g
