-- How each record carries the invariant of a component's loop on, or ends the loop.
-- Assumes nothing.
use Prim.Native.Nat.{ℕ, zero, suc, ◌+◌, ◌-◌, ◌≤◌, ◌<◌}
use mathlib.Core.Bool.{true, false}
use mathlib.Core.Path.{◌≡◌, refl, sym, ap, ◌∙◌, subst}
use mathlib.Core.List.{List}
use mathlib.Core.Logic.{◌≢◌}
use native.Mathlib.Omega.{arith}
use native.Mathlib.Numerals.{add-one}
use native.Mathlib.Decide.{dec_lt}
use lib.Dec.{ltb→lt}
use Rattle.numbers.specs.Numbers.{Bytes}
use Rattle.timeline.specs.Design.{Class}
use Rattle.answers.specs.Fault as Fault
use Rattle.answers.specs.Answer.{accepted, refused, Refusal}
use Rattle.entry.specs.Records.{Part, Record, wrong, component, part}
use Rattle.reading.specs.Place.{may_end}
use Rattle.reading.specs.Reader as Reading
use Rattle.reading.specs.Reader.{Row, View, tests}
use Rattle.reading.specs.Told.{told}
use Rattle.reading.specs.Reads.{Ranged, Passes}
use Rattle.rules.specs.Failed.{first_failed}
use Rattle.records.specs.Decoded.{decoded}
use Rattle.look.specs.Look.{sixteen, look}
use Rattle.order.specs.Seen.{seen}
use Rattle.reader.specs.declared.Invocations.{Invocations}
use Rattle.reader.specs.declared.Reader.{Reader}
use Rattle.reader.specs.Rows.{none, row_in}
use Rattle.reader.specs.State.{State, fresh, begin, viewed, own_row, part_went, holding, named, Turned}
use Rattle.reader.proofs.Passed.{numbered, passes}
use Rattle.component.specs.declared.Progress.{Progress}
use Rattle.component.specs.Run.{waits, reads, after, view, held_on, next, rest, last, Onward, Fit}
use Rattle.component.specs.Component.{with_row, run, HoldsRows}
use Rattle.component.proofs.Keeps.{fits_holding, own_next}
use Rattle.component.proofs.Tested.{tests_as, closed_tests, looks_at, went_as}
use Rattle.component.proofs.Turns.{further, stops, steps, ends_whole, ends_short, ends_there, after_some}
use Rattle.component.proofs.Inside.{Idle, Coming, Sofar, Inside, kept_state}
use Rattle.component.proofs.Parts.{part_number, part_idle, part_fits, part_holds, part_coming, part_held}

after_none : (i : ℕ) (rows : ℕ → Row) (s : State) → i ≡ 0 → after i rows s ≡ waits
after_none zero rows s e = refl
after_none (suc i) rows s e = absurd (omega arith)

-- What is told of record p, which breaks rule m, whatever has been read.
abbrev pub Tells : (p m : ℕ) → Refusal → Type 0
Tells p m t = (v : View) → (x : Record) → t ≡ told v x p m

module _ {file : List ℕ} {n : ℕ} {q : Progress} {held : List ℕ} {r : Reader} {k : Invocations} {i : ℕ} (here : Inside file n q held r k i) (l : i < n) (few : n ≤ 3968) (small : Bytes file)
    {x : Record} (said : decoded (sixteen file i) ≡ x) (ranged : Ranged x) {m : ℕ} (m-is : m ≡ named x) {w : Row} (row-is : w ≡ row_in held m)
    {refusal : ℕ} (r' : Reader) (k' : Invocations) (turned : Turned (look file) (kept_state r (λ m. w) k) i x refusal (kept_state r' (λ m. w) k')) where
  abbrev s : State
  s = kept_state r (λ m. w) k

  module _ (rows : ℕ → Row) (g : HoldsRows file n rows q.at (q.count - 1) held) where
    abbrev so : Sofar file n q held rows r k i
    so = here.sofar rows g

    abbrev s₁ : State
    s₁ = kept_state r so.h k

    at_named : named x < r.place.instances → so.h (named x) ≡ w
    at_named b = so.like (named x) b ∙ ap (λ (z : ℕ). row_in held z) (sym m-is) ∙ sym row-is

    -- The tests that are made are those of the theory.
    tested : refusal ≡ first_failed (tests (look file) (view (after i rows s₁)) x)
    tested = go (dec_lt 0 i)
      where
        go : Dec (0 < i) → refusal ≡ first_failed (tests (look file) (view (after i rows s₁)) x)
        go (yes p) = rw (after_some i rows s₁ p) (turned.number_is ∙ tests_as (look file) so.h w r k.instances k.offsets k.outputs k.firsts rows x at_named)
        go (no p) =
            let z : i ≡ 0 = omega arith in
            let f = here.first z in
            rw (after_none i rows s₁ z) (turned.number_is ∙ closed_tests (look file) s x f.0 (let y = f.1 in omega arith))

    pub stops_here : refusal ≢ 0 → (t : Refusal) → Tells i refusal t → rest file n (run rows q) q.at ≡ refused t
    stops_here d t tells = so.onward.answer ∙ stops file n i l (after i rows s₁) x said refusal tested d ∙ ap refused (sym (tells (view (after i rows s₁)) x))

    moves : refusal ≡ 0 → Onward file n (run rows q) q.at (next (after i rows s₁) i x) (i + 1)
    moves z = further file n so.onward (steps file n i l (after i rows s₁) x said refusal tested z)

  pass : refusal ≡ 0 → Passes (tests (look file) (Reading.reads (viewed none s)) x)
  pass z = passes (tests (look file) (Reading.reads (viewed none s)) x) (numbered (look file) (Reading.reads (viewed none s)) x) (sym turned.number_is ∙ z)

  -- A component record ends the component.
  module _ (z : refusal ≡ 0) (class : Class) (d : ℕ) (is_component : x ≡ component class d) where
    pub room_left : q.count < 64
    room_left = go (dec_lt 0 i)
      where
        go : Dec (0 < i) → q.count < 64
        go (yes p) = let e = here.counted p in let t = rw is_component at (pass z) in let b = ltb→lt (r.number + 1) 64 t.1.1.0 in omega arith
        go (no p) = let e = (here.first (omega arith)).2 in omega arith

    pub ends_here : (rows : ℕ → Row) → HoldsRows file n rows q.at (q.count - 1) held → Onward file n (run rows q) q.at (reads (with_row q.count rows (own_row (fresh r))) (begin class d i q.count)) (i + 1)
    ends_here rows g = go (dec_lt 0 i)
      where
        go : Dec (0 < i) → Onward file n (run rows q) q.at (reads (with_row q.count rows (own_row (fresh r))) (begin class d i q.count)) (i + 1)
        go (yes p) =
            let e = here.counted p in
            rw (e, add-one r.number) (rw (is_component, after_some i rows (s₁ rows g) p, add-one r.number) at (moves rows g z))
        go (no p) =
            let o : i ≡ 0 = omega arith in
            let e = (here.first o).2 in
            rw e (rw (is_component, after_none i rows (s₁ rows g) o) at (moves rows g z))

  -- A part goes on.
  module _ (z : refusal ≡ 0) (y : Part) (is-part : x ≡ part y) where
    some : 0 < i
    some = go (dec_lt 0 i)
      where
        go : Dec (0 < i) → 0 < i
        go (yes p) = p
        go (no p) =
            let o : i ≡ 0 = omega arith in
            let f = here.first o in
            let c = rw is-part at (turned.number_is ∙ closed_tests (look file) s x f.0 (let y = f.1 in omega arith)) in
            absurd (omega (arith, c, z))

    kept : kept_state r' (λ m. w) k' ≡ part_went s y
    kept = rw is-part at (turned.goes_on z)

    t : Passes (tests (look file) (Reading.reads (viewed none s)) (part y))
    t = rw is-part at (pass z)

    in_range : Ranged (part y)
    in_range = rw is-part at ranged

    says_part : decoded (sixteen file i) ≡ part y
    says_part = rw is-part at said

    fits : Fit (holding (part_went s y) none)
    fits = part_fits none s y (own_next (look file) (reads none s) i (part y) (omega arith) (fits_holding (kept_state r none k) (λ m. w) here.fit) in_range t).1

    sofar_here : (rows : ℕ → Row) → HoldsRows file n rows q.at (q.count - 1) held → Sofar file n q held rows r' k' (i + 1)
    sofar_here rows g =
        let a = s₁ rows g in
        let b = rw (after_some i rows a some, is-part) at (tested rows g) in
        let t₁ = passes (tests (look file) (Reading.reads (viewed rows a)) (part y)) (numbered (look file) (Reading.reads (viewed rows a)) (part y)) (sym b ∙ z) in
        let c : kept_state r' (so rows g).h k' ≡ part_went a y = went_as (so rows g).h w r k.instances k.offsets k.outputs k.firsts r' k'.instances k'.offsets k'.outputs k'.firsts y (looks_at (so rows g).h w r k.instances k.offsets k.outputs k.firsts (look file) y (rw is-part at (at_named rows g)) t) kept in
        let h' = (held_on rows a y).held in
        let e : kept_state r' h' k' ≡ held_on rows a y = ap (λ (u : State). holding u h') c ∙ sym (part_holds rows a y) in
        record {
          h = h';
          like = λ m b. part_held file n q.at a i l small here.coming (look file) rows here.idle held (q.count - 1) here.number y says_part in_range t₁ g (so rows g).like m (subst (λ (u : State). m < u.place.instances) c b);
          onward = rw (after_some (i + 1) rows (kept_state r' h' k') (omega arith), e) (rw (is-part, after_some i rows a some) at (moves rows g z));
        }

    pub goes_here : Inside file n q held r' k' (i + 1)
    goes_here =
        let same : r'.number ≡ r.number = ap (λ (u : State). u.number) kept ∙ part_number s y in
        record {
          from = (let b = here.from in omega arith);
          below = omega arith;
          fit = subst (λ (u : State). Fit u) (sym (ap (λ (u : State). holding u none) kept)) fits;
          input = turned.input_record z;
          number = same ∙ here.number;
          counted = λ b. here.counted some ∙ ap (λ (m : ℕ). m + 1) (sym same);
          first = λ o. absurd (omega arith);
          idle = subst (λ (u : State). Idle u) (sym kept) (part_idle s y here.idle);
          coming = subst (λ (u : State). Coming file n q.at u (i + 1)) (sym kept) (part_coming file n q.at s i l small here.coming (look file) none here.idle y says_part in_range t);
          sofar = sofar_here;
        }

-- The records are read.
module _ {file : List ℕ} {n : ℕ} {q : Progress} {held : List ℕ} {r : Reader} {k : Invocations} {i : ℕ} (here : Inside file n q held r k i) (l : n ≤ i) (some : 1 ≤ n) where
  pub all_read : i ≡ n
  all_read = let b = here.below in omega arith

  module _ (rows : ℕ → Row) (g : HoldsRows file n rows q.at (q.count - 1) held) where
    abbrev last_state : State
    last_state = kept_state r (here.sofar rows g).h k

    reads_on : Onward file n (run rows q) q.at (reads rows last_state) i
    reads_on = rw (after_some i rows last_state (omega arith)) at (here.sofar rows g).onward

    pub all_short : may_end (seen r.place) ≡ false → (t : Refusal) → Tells n Fault.Place t → rest file n (run rows q) q.at ≡ refused t
    all_short e t tells =
        reads_on.answer ∙ ends_short file n i l rows last_state e
        ∙ ap (λ (p : ℕ). refused (told (view (reads rows last_state)) wrong p Fault.Place)) all_read
        ∙ ap refused (sym (tells (view (reads rows last_state)) wrong))

    pub all_whole : may_end (seen r.place) ≡ true → rest file n (run rows q) q.at ≡ accepted (record { components = q.count; records = n })
    all_whole e = let c = here.counted (omega arith) in reads_on.answer ∙ ends_whole file n i l rows last_state e ∙ rw (c, all_read)

    pub all_leads : last file n (run rows q) q.at ≡ reads rows last_state
    all_leads = reads_on.leads ∙ ends_there file n i l rows last_state
