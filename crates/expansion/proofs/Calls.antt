-- What each call of the two functions asks, and what it leaves.
-- Assumes nothing.
use Prim.Native.Nat.{ℕ, ◌+◌, ◌*◌, ◌≤◌, ◌<◌}
use mathlib.Core.Path.{◌≡◌, ap, sym, ◌∙◌}
use mathlib.Core.List.{List, [], ◌++◌, append-nil}
use native.Mathlib.Omega.{arith}
use lib.ListN.{length, take, drop, length-append, length-take, drop_of_length-le}
use lib.Seq.{take_at, take-length}
use Rattle.timeline.specs.Flat.{Row}
use Rattle.expansion.specs.Bytes.{rows_bytes, pasted}
use Rattle.expansion.specs.declared.Note.{Note}
use Rattle.expansion.specs.Notes.{note_at, first_note, listed, listed_from}
use Rattle.expansion.specs.Asked.{Sound, Asked, AskedFrom, Wrote}
use Rattle.expansion.proofs.Pasted.{pasted_none, pasted_length, pasted_more, length_rows_bytes, rows_bytes_join}
use Rattle.expansion.proofs.Listed.{listed_leaf, listed_notes, from_more}

-- ---- rows written one after the other
pub wrote_none : (old : List ℕ) (at : ℕ) → Wrote [] at at old old
unfolding rows_bytes
wrote_none old at = record { behind = omega arith; bytes = sym (pasted_none old at) }

pub wrote_long : (a : List Row) (at r : ℕ) (old new : List ℕ) → at + 8 * length a ≤ length old → Wrote a at r old new → length new ≡ length old
wrote_long a at r old new room w = let l = length_rows_bytes a in ap length w.bytes ∙ pasted_length old at (rows_bytes a) (omega arith)

pub wrote_both : (a b : List Row) (at r₁ r₂ : ℕ) (old mid new : List ℕ) → at + 8 * length a ≤ length old
    → Wrote a at r₁ old mid → Wrote b r₁ r₂ mid new → Wrote (a ++ b) at r₂ old new
wrote_both a b at r₁ r₂ old mid new room v w =
    let l = length_rows_bytes a in
    let e : r₁ ≡ at + length (rows_bytes a) = v.behind ∙ ap (λ (k : ℕ). at + k) (sym l) in
    record {
      behind = let p = v.behind in let q = w.behind in simp length-append (omega arith);
      bytes = w.bytes ∙ rw (v.bytes, e, rows_bytes_join a b) (pasted_more old at (rows_bytes a) (omega arith) (rows_bytes b));
    }

-- ---- a component
module _ {noted : List Note} {ends : List ℕ} {c t u at : ℕ} {old : List ℕ} (a : Asked noted ends c t u at old) where
  pub leaf_asked : first_note ends (c + 1) ≤ first_note ends c → (at + 8 ≤ 32768) × (length old ≡ 32768)
  leaf_asked h = let n : length (listed noted ends c t u) ≡ 1 = ap length (listed_leaf noted ends c t u h) in let r = a.room in (omega arith, a.long)

  pub notes_asked : first_note ends c < first_note ends (c + 1) → AskedFrom noted ends c (first_note ends c) t u at old
  notes_asked h = record { expands = a.expands; from = omega arith; upto = omega arith; room = rw (listed_notes noted ends c t u h) at a.room; long = a.long }

-- ---- its notes from e on
module _ {noted : List Note} {ends : List ℕ} {c e t u at : ℕ} {old : List ℕ} (a : AskedFrom noted ends c e t u at old) (h : e < first_note ends (c + 1)) where
  pub note_within : e < 3968
  note_within = let w = a.expands.sound.within c (omega arith) in omega arith

  module _ {x : Note} (is : x ≡ note_at noted e) (offset_small : x.offset < 65536) (units_small : x.units < 65536) where
    pub lower : x.component < c
    lower = rw is (a.expands.sound.lower c (omega arith) e a.from h)

    abbrev first : List Row
    first = listed noted ends x.component (t + x.offset) (u + x.units)

    cut : listed_from noted ends c e t u ≡ first ++ listed_from noted ends c (e + 1) t u
    cut = rw is (from_more noted ends (c + 1) a.expands.sound c e t u (omega arith) a.from h)

    cut_length : length (listed_from noted ends c e t u) ≡ length first + length (listed_from noted ends c (e + 1) t u)
    cut_length = ap length cut ∙ length-append first (listed_from noted ends c (e + 1) t u)

    sound_below : Sound noted ends (x.component + 1)
    sound_below =
        let l = lower in
        let s = a.expands.sound in
        record {
          rising = λ d m. s.rising d (omega arith);
          within = λ d m. s.within d (omega arith);
          lower = λ d m. s.lower d (omega arith);
        }

    pub sub_asked : Asked noted ends x.component (t + x.offset) (u + x.units) at old
    sub_asked =
        let l = lower in
        let k = cut_length in
        let r = a.room in
        let d = a.expands in
        record {
          expands = record { sound = sound_below; few = omega arith; cycles = omega arith; units = omega arith };
          room = omega arith;
          long = a.long;
        }

    module _ {r₁ : ℕ} {mid : List ℕ} (v : Wrote first at r₁ old mid) where
      fitted : at + 8 * length first ≤ length old
      fitted = let k = cut_length in let r = a.room in let l = a.long in omega arith

      pub next_asked : AskedFrom noted ends c (e + 1) t u r₁ mid
      next_asked =
          let k = cut_length in
          let r = a.room in
          let f = a.from in
          let p = v.behind in
          record { expands = a.expands; from = omega arith; upto = omega arith; room = omega arith; long = wrote_long first at r₁ old mid fitted v ∙ a.long }

      pub notes_wrote : {r₂ : ℕ} {new : List ℕ} → Wrote (listed_from noted ends c (e + 1) t u) r₁ r₂ mid new → Wrote (listed_from noted ends c e t u) at r₂ old new
      notes_wrote {r₂} {new} w = rw cut (wrote_both first (listed_from noted ends c (e + 1) t u) at r₁ r₂ old mid new fitted v w)

-- ---- the rows copied to the front of lent bytes
module _ (rows : List Row) (r : ℕ) (array mid old : List ℕ) (size : ℕ) (w : Wrote rows 0 r array mid) (is : size ≡ 8 * length rows) (room : size ≤ length old) where
  pub front : take size mid ≡ rows_bytes rows
  unfolding pasted
  front = rw w.bytes (take_at (rows_bytes rows) (drop (0 + length (rows_bytes rows)) array) size (length_rows_bytes rows ∙ sym is))

  pub copied : (n : ℕ) → n ≡ size → take (length (take n mid)) (take n mid) ++ drop (length (take n mid)) (take n old) ++ drop n old ≡ rows_bytes rows ++ drop size old
  copied n e =
      let l : length (rows_bytes rows) ≡ size = length_rows_bytes rows ∙ sym is in
      rw (e, front, take-length (rows_bytes rows), l, drop_of_length-le (take size old) {i = size} (simp length-take (omega arith)), append-nil (rows_bytes rows))
