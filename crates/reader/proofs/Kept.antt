-- What the code keeps after a record is what the definitions say: one law for each way to go on.
-- Assumes nothing.
use Prim.Native.Nat.{ℕ, ◌+◌, ◌≤◌}
use mathlib.Core.Path.{◌≡◌, sym, ◌∙◌}
use mathlib.Core.List.{List}
use mathlib.Core.Logic.{◌≢◌}
use lib.ListN.{set}
use Rattle.timeline.specs.Design as Design
use Rattle.timeline.specs.Design.{no_call}
use Rattle.entry.specs.Records.{invocation, argument, Record}
use Rattle.reading.specs.Place as Reading
use Rattle.reading.specs.Place.{moved}
use Rattle.reading.specs.Reader.{Row, reads, tests}
use Rattle.rules.specs.Failed.{first_failed}
use Rattle.order.specs.declared.Place.{Place}
use Rattle.order.specs.Seen.{seen}
use Rattle.reader.specs.declared.Reader.{Reader}
use Rattle.signatures.specs.declared.Signature.{Signature}
use Rattle.reader.specs.Rows.{row, none}
use Rattle.reader.specs.State.{State, state, viewed, at_place, part_went, went, Turned}

-- The declared reader at another place.
abbrev placed : Reader → Place → Reader
placed r s = record { place = s; delay = r.delay; number = r.number; first = r.first; input = r.input; offset = r.offset }

module _ (held : ℕ → Row) (instances offsets outputs firsts : List ℕ) (r : Reader) where
  pub kept_place : (q : Reader) (s : Place) (x : Reading.Place) → q ≡ placed r s → seen s ≡ x → state q held instances offsets outputs firsts ≡ at_place (state r held instances offsets outputs firsts) x
  kept_place q s x e f = rw (e, f)

  pub kept_argument : (s : Place) (x : Design.Source) → seen s ≡ moved (seen r.place) (argument x) 0
      → state
      (record { place = s; delay = r.delay; number = r.number; first = r.first; input = r.input + 1; offset = r.offset })
      held
      instances
      offsets
      outputs
      firsts
      ≡ part_went (state r held instances offsets outputs firsts) (argument x)
  kept_argument s x e = rw e

-- v: the row of the instance that it invokes.
module _ (v : Signature) (instances offsets outputs firsts : List ℕ) (r : Reader) where
  pub kept_invocation : (s : Place) (n k f m d : ℕ) → f ≡ v.first → m ≡ v.inputs → d ≡ k → seen s ≡ moved (seen r.place) (invocation no_call) m
      → state
      (record { place = s; delay = r.delay; number = r.number; first = r.first; input = f + 1; offset = d })
      (λ x. row v)
      (set instances r.place.invocations n)
      (set offsets r.place.invocations k)
      (set outputs r.place.invocations v.outputs)
      (set firsts r.place.invocations (v.first + 1 + v.inputs))
      ≡ part_went (state r (λ x. row v) instances offsets outputs firsts) (invocation (record { instance = n; offset = k }))
  kept_invocation s n k f m d e g h w = rw (w, e, g, h)

-- Refused, or gone on.
module _ (look : ℕ → Design.Port) (s : State) (p : ℕ) (x : Record) (m n : ℕ) (s' : State) (is : n ≡ first_failed (tests look (reads (viewed none s)) x)) where
  pub refused_turn : m ≡ n → n ≢ 0 → Turned look s p x m s'
  refused_turn e d = record { number_is = e ∙ is; goes_on = λ z. absurd (d (sym e ∙ z)); input_record = λ z. absurd (d (sym e ∙ z)) }

  -- Whatever the number is, nothing changes.
  pub kept_turn : m ≡ n → s' ≡ went s x → (went s x).input_record ≤ 65536 + (p + 1) → Turned look s p x m s'
  kept_turn e f b = record { number_is = e ∙ is; goes_on = λ y. f; input_record = λ y. rw f b }

  pub went_turn : m ≡ 0 → n ≡ 0 → s' ≡ went s x → (went s x).input_record ≤ 65536 + (p + 1) → Turned look s p x m s'
  went_turn e z f b = kept_turn (e ∙ sym z) f b
