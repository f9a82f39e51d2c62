-- What a part of a component does to what is ahead and to what is held.
-- Assumes nothing.
use Prim.Native.Nat.{ℕ, ◌+◌, ◌-◌, ◌<◌}
use mathlib.Core.Bool.{Bool, true, false, ◌&&◌}
use mathlib.Core.Path.{◌≡◌, refl, sym, ap, ◌∙◌}
use mathlib.Core.List.{List, ◌∷◌}
use native.Mathlib.Omega.{arith}
use native.Mathlib.Numerals.{add-one}
use native.Mathlib.Decide.{ℕ_discrete}
use lib.ListN.{length, get_or, drop, length-drop}
use lib.Seq.{drop-cons}
use lib.Dec.{T, eqb, ltb, ltb→lt, eqb→eq}
use Rattle.numbers.specs.Numbers.{Bytes}
use Rattle.timeline.specs.Design.{Port}
use Rattle.entry.specs.Records.{Part, input, output, instance, invocation, argument, connection, part}
use Rattle.reading.specs.Changed.{changed, changed_there, changed_below}
use Rattle.reading.specs.Reader as Reading
use Rattle.reading.specs.Reader.{Row, tests}
use Rattle.reading.specs.Reads.{Ranged, Passes}
use Rattle.records.specs.Decoded.{decoded}
use Rattle.look.specs.Look.{sixteen}
use Rattle.reader.specs.Rows.{none, row_in}
use Rattle.reader.specs.State.{State, viewed, part_went, holding}
use Rattle.component.specs.Run.{held_on, Fit}
use Rattle.component.specs.Ahead.{ahead}
use Rattle.component.specs.Component.{HoldsRows}
use Rattle.component.proofs.Keeps.{fits_holding}
use Rattle.component.proofs.Inside.{Idle, Coming}
use Rattle.component.proofs.Ahead.{sees_input, sees_output, sees_instance}

and_first : (a b : Bool) → T (a && b) → T a
and_first true b t = tt
and_first false b t = t

and_second : (a b : Bool) → T (a && b) → T b
and_second true b t = t
and_second false b t = absurd t

pub part_number : (s : State) (y : Part) → (part_went s y).number ≡ s.number
part_number s (input p) = refl
part_number s (output p) = refl
part_number s (instance m) = refl
part_number s (invocation v) = refl
part_number s (argument x) = refl
part_number s (connection x) = refl

pub part_idle : (s : State) (y : Part) → Idle s → Idle (part_went s y)
part_idle s (input p) i = i
part_idle s (output p) i = i
part_idle s (instance m) i = i
part_idle s (invocation v) i = λ z. absurd (omega arith)
part_idle s (argument x) i = λ z. (let e = i z in omega arith)
part_idle s (connection x) i = i

pub part_fits : (rows : ℕ → Row) (s : State) (y : Part) → Fit (held_on rows s y) → Fit (holding (part_went s y) none)
part_fits rows s (input p) f = fits_holding (part_went s (input p)) none f
part_fits rows s (output p) f = fits_holding (part_went s (output p)) none f
part_fits rows s (instance m) f = fits_holding (held_on rows s (instance m)) none f
part_fits rows s (invocation v) f = fits_holding (part_went s (invocation v)) none f
part_fits rows s (argument x) f = fits_holding (part_went s (argument x)) none f
part_fits rows s (connection x) f = fits_holding (part_went s (connection x)) none f

pub part_holds : (rows : ℕ → Row) (s : State) (y : Part) → held_on rows s y ≡ holding (part_went s y) (held_on rows s y).held
part_holds rows s (input p) = refl
part_holds rows s (output p) = refl
part_holds rows s (instance m) = refl
part_holds rows s (invocation v) = refl
part_holds rows s (argument x) = refl
part_holds rows s (connection x) = refl

module _ (file : List ℕ) (n at : ℕ) (s : State) (i : ℕ) (l : i < n) (small : Bytes file) (c : Coming file n at s i) where
  -- The next instance that has been looked up.
  module _ (m : ℕ) (few : m < 64) (room : s.place.instances < 32) (e : decoded (sixteen file i) ≡ part (instance m)) (a : s.place.invocations ≡ 0) (b : s.place.connections ≡ 0) where
    abbrev all : List ℕ
    all = ahead file (n - at) at 0

    abbrev k : ℕ
    k = s.place.instances

    taken : drop k all ≡ m ∷ ahead file (n - (i + 1)) (i + 1) (k + 1)
    taken = c a b ∙ sees_instance file n i k l small m few room e

    pub next_within : k < length all
    next_within = let d = length-drop k all in let y = ap length taken in omega arith

    apart : get_or all k 0 ∷ drop (k + 1) all ≡ m ∷ ahead file (n - (i + 1)) (i + 1) (k + 1)
    apart = ap (λ (z : ℕ). get_or all k 0 ∷ drop z all) (add-one k) ∙ sym (drop-cons all k 0 next_within) ∙ taken

    pub next_is : get_or all k 0 ≡ m
    next_is = ap (λ (z : List ℕ). get_or z 0 0) apart

    pub next_left : drop (k + 1) all ≡ ahead file (n - (i + 1)) (i + 1) (k + 1)
    next_left = ap (λ (z : List ℕ). drop 1 z) apart

  module _ (look : ℕ → Port) (rows : ℕ → Row) (idle : Idle s) where
    pub part_coming : (y : Part) → decoded (sixteen file i) ≡ part y → Ranged (part y) → Passes (tests look (Reading.reads (viewed rows s)) (part y)) → Coming file n at (part_went s y) (i + 1)
    part_coming (input p) e r t = λ a b. c a b ∙ sees_input file n i s.place.instances l small p e
    part_coming (output p) e r t = λ a b. c a b ∙ sees_output file n i s.place.instances l small p e
    part_coming (instance m) e r t = λ a b. next_left m r (ltb→lt _ _ t.1.1.0) e a b
    part_coming (invocation v) e r t = λ a b. absurd (omega arith)
    part_coming (argument x) e r t = λ a b. absurd (let d = idle a in let g = ltb→lt 0 s.place.due (and_second s.place.built (ltb 0 s.place.due) t.1.0) in omega arith)
    part_coming (connection x) e r t = λ a b. absurd (omega arith)

    -- What is held is what has been looked up.
    pub part_held : (held : List ℕ) (number : ℕ) → s.number ≡ number → (y : Part) → decoded (sixteen file i) ≡ part y → Ranged (part y) → Passes (tests look (Reading.reads (viewed rows s)) (part y)) → HoldsRows file n rows at number held
        → ((m : ℕ) → m < s.place.instances → s.held m ≡ row_in held m) → (m : ℕ) → m < (part_went s y).place.instances → (held_on rows s y).held m ≡ row_in held m
    part_held held number own (input p) e r t g h = h
    part_held held number own (output p) e r t g h = h
    part_held held number own (instance d) e r t g h = λ m b. go m b (ℕ_discrete m s.place.instances)
      where
        before : T (s.place.built && (eqb s.place.invocations 0 && eqb s.place.connections 0))
        before = t.1.0

        no_calls : T (eqb s.place.invocations 0 && eqb s.place.connections 0)
        no_calls = and_second s.place.built (eqb s.place.invocations 0 && eqb s.place.connections 0) before

        calls : s.place.invocations ≡ 0
        calls = eqb→eq _ _ (and_first (eqb s.place.invocations 0) (eqb s.place.connections 0) no_calls)

        ends : s.place.connections ≡ 0
        ends = eqb→eq _ _ (and_second (eqb s.place.invocations 0) (eqb s.place.connections 0) no_calls)

        room : s.place.instances < 32
        room = ltb→lt _ _ t.1.1.0

        below : get_or (ahead file (n - at) at 0) s.place.instances 0 < number
        below = let y = next_is d r room e calls ends in let u = ltb→lt d s.number t.1.1.1.0 in omega (arith, y, u, own)

        go : (m : ℕ) → m < s.place.instances + 1 → Dec (m ≡ s.place.instances) → changed s.held s.place.instances (rows d) m ≡ row_in held m
        go m b (yes z) =
            rw z
            (changed_there s.held s.place.instances (rows d)
            ∙ ap rows (sym (next_is d r room e calls ends))
            ∙ sym (g s.place.instances (next_within d r room e calls ends) below))
        go m b (no z) = let y : m < s.place.instances = omega arith in changed_below s.held s.place.instances (rows d) m y ∙ h m y
    part_held held number own (invocation v) e r t g h = h
    part_held held number own (argument x) e r t g h = h
    part_held held number own (connection x) e r t g h = h
