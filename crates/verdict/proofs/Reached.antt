-- How each component carries on the invariant of the loop over them (Going), and what the last one leaves.
-- Assumes nothing.
use Prim.Native.Nat.{ℕ, zero, suc, ◌+◌, ◌-◌, ◌<◌}
use mathlib.Core.Path.{◌≡◌, refl, sym, ap, ◌∙◌, subst}
use mathlib.Core.List.{List}
use native.Mathlib.Omega.{arith}
use native.Mathlib.Decide.{ℕ_discrete}
use lib.ListN.{length}
use borrow.Author.Tests.{le-ltb}
use Rattle.std.specs.Prelude.{Result}
use Rattle.answers.specs.declared.Refusal.{Refusal}
use Rattle.answers.specs.Answer.{accepted, Counts}
use Rattle.timeline.specs.Design as Design
use Rattle.numbers.specs.Numbers.{Bytes}
use Rattle.entry.specs.Numbers.{component_number}
use Rattle.entry.specs.Entered.{design}
use Rattle.entry.proofs.Main.{accepted_exactly, the_design}
use Rattle.reading.specs.Changed.{changed, changed_there, changed_below}
use Rattle.reading.specs.Reader.{Row}
use Rattle.reading.specs.Table.{TableOf, RowOf, table}
use Rattle.signatures.specs.declared.Signature.{Signature}
use Rattle.reader.specs.Rows.{row, signature, Exact, none}
use Rattle.reader.specs.State.{fresh, before, own_row}
use Rattle.reader.proofs.Class.{row_back}
use Rattle.look.specs.Listed.{records_of}
use Rattle.component.specs.declared.Progress.{Progress}
use Rattle.component.specs.declared.Ended.{Ended}
use Rattle.component.specs.Run.{Run, waits, view, rest}
use Rattle.component.specs.Component.{Begun as Begun-at, with_row, Goes, Stops, Read}
use Rattle.component.proofs.Turns.{stay, further}
use Rattle.verdict.specs.Judgement.{judgement}
use Rattle.verdict.specs.Opening.{row_of, RowsOf}
use Rattle.verdict.specs.Started.{Started}
use Rattle.verdict.proofs.Counts.{count_bounds}
use Rattle.verdict.proofs.Whole.{Holds, whole, rows_right}
use Rattle.verdict.proofs.Going.{Going}

row_is : (D : Design.Design) (c : ℕ) (v : Row) → RowOf (Design.component D c) (component_number D c) v → signature v ≡ row_of D c
unfolding signature Design.class Design.delay Design.input_count Design.output_count
row_is D c v r = rw (r.built, r.delay, r.inputs, r.outputs, r.first)

module _ (file : List ℕ) (rows n : ℕ) (s : Started file rows n) (small : Bytes file) where
  pub holds : Holds file n
  holds = let b = count_bounds file n s.counted in record { within = b.2; few = b.1; small = small }

  pub judged_so : judgement file rows ≡ rest file n waits 0
  unfolding judgement
  judged_so = rw (le-ltb rows 64 s.enough, s.counted) (whole file n holds)

module _ (file : List ℕ) (n : ℕ) where
  pub reached_first : (f : ℕ → Signature) (q : Progress) → fresh q.reader ≡ before → q.at ≡ 0 → q.count ≡ 0 → Going file n f q
  reached_first f q e a c =
      record {
        within = omega arith;
        begins = subst (λ (m : ℕ). Begun-at m q.count (fresh q.reader)) (sym a) (c, e);
        rows = none;
        shows = λ m l. absurd (omega arith);
        onward = rw a (stay file n waits 0);
      }

  -- What is read with the rows of the table.
  pub known : {f : ℕ → Signature} {q : Progress} (here : Going file n f q) (r : Result Ended Refusal) → ((rows : ℕ → Row) → ((c : ℕ) → c < q.count - 1 → row (f c) ≡ rows c) → Read file n rows q r) → Read file n here.rows q r
  known here r read = read here.rows (λ c l. ap row (here.shows c (omega arith)) ∙ row_back (here.rows c))

  -- One component more, with this row at this place. f': what the table then has.
  module _ (few : Holds file n) {f : ℕ → Signature} {q : Progress} (here : Going file n f q) (place : ℕ) (place-is : place ≡ q.count - 1) (w : Signature) (exact : Exact w) (f' : ℕ → Signature) (stored : (c : ℕ) → f' c ≡ changed f place w c) where
    new : f' place ≡ signature (row w)
    new = stored place ∙ changed_there f place w ∙ exact

    old : (c : ℕ) → c < place → f' c ≡ signature (here.rows c)
    old c l = stored c ∙ changed_below f place w c l ∙ here.shows c (omega arith)

    -- Up to the place.
    same : (c : ℕ) → c < place + 1 → f' c ≡ signature (changed here.rows place (row w) c)
    same c l = go (ℕ_discrete c place)
      where
        go : Dec (c ≡ place) → f' c ≡ signature (changed here.rows place (row w) c)
        go (yes z) = rw z (new ∙ ap signature (sym (changed_there here.rows place (row w))))
        go (no z) = let y : c < place = omega arith in old c y ∙ ap signature (sym (changed_below here.rows place (row w) c y))

    pub goes : {p : Progress} → Goes file n here.rows q w p → Going file n f' p
    goes {p} r = record { within = r.within; begins = r.begins; rows = with_row q.count here.rows (row w); shows = λ c l. shown q.count refl c (let y = r.count in omega arith); onward = further file n here.onward r.onward }
      where
        shown : (k : ℕ) → q.count ≡ k → (c : ℕ) → c < q.count → f' c ≡ signature (with_row k here.rows (row w) c)
        shown zero y c l = absurd (omega arith)
        shown (suc k) y c l = let z : place ≡ k = omega arith in same c (omega arith) ∙ ap (λ (m : ℕ). signature (changed here.rows m (row w) c)) z

    -- Of the last one.
    module _ (r : Stops file n here.rows q place w) where
      abbrev counts : Counts
      counts = record { components = q.count; records = n }

      pub accepts : rest file n waits 0 ≡ accepted counts
      accepts = here.onward.answer ∙ r.accepts

      -- As many components as rows.
      total : length (design (records_of file n)) ≡ place + 1
      total =
          let h = (accepted_exactly (records_of file n) counts).0 (whole file n few ∙ accepts) in
          ap length (ap design (sym h.2) ∙ the_design h.0 h.1.whole) ∙ h.3 ∙ r.count

      pub rows_there : RowsOf (design (records_of file n)) f'
      rows_there c l =
          let v = r.whole in
          let t = subst (λ (a : Run). TableOf (design (records_of file n)) (table (view a))) (here.onward.leads ∙ v.leads) (rows_right file n few counts accepts) in
          let y = total in
          let g : changed here.rows v.final.number (own_row v.final) c ≡ changed here.rows place (row w) c = ap (λ (p : ℕ). changed here.rows p (own_row v.final) c) v.number ∙ ap (λ (u : Row). changed here.rows place u c) v.row in
          same c (omega arith) ∙ ap signature (sym g) ∙ row_is (design (records_of file n)) c _ (t c l)
