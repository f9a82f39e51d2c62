-- The verdict gives the answer that the rules demand, and a record list and its design are each other's.
-- Assumes nothing.
use Rattle.std.specs.Prelude.{ℕ, ◌<◌, ◌≡◌, refl, List, [], ◌∷◌, map, ◌↔◌, length}
use Rattle.std.proofs.Common.{sym, ap, ◌∙◌}
use Rattle.answers.specs.Answer.{Answer, accepted, refused, Counts}
use Rattle.timeline.specs.Design.{Design, component, invocation_count}
use Rattle.timeline.specs.Rules.{Whole, Lawful}
use Rattle.entry.specs.Records.{Record, records}
use Rattle.entry.specs.Entered.{design}
use Rattle.entry.specs.Answers.{Breaks, Answers}
use Rattle.entry.specs.Verdict.{verdict}
use Rattle.entry.specs.Cases.{Answered}
use Rattle.entry.proofs.Refused.{broken, refusal_exactly, accepted_unbroken, unbroken_accepted, accepted_nowhere}
use Rattle.entry.proofs.Steps.{unbroken_finished}
use Rattle.entry.proofs.Rebuilt.{design_records}
use Rattle.entry.proofs.Accepted.{finished_unbroken}
use Rattle.entry.proofs.Bridge.{finished_lawful}

pub design_of_whole : (D : Design) → ((c : ℕ) → c < length D → Whole D c) → design (records D) ≡ D
unfolding component invocation_count
design_of_whole D whole = design_records D (λ c l. (whole c l).argument_lists)

pub accepted_lawful : (rs : List Record) (k : Counts) → verdict rs ≡ accepted k → Lawful (design rs) × (records (design rs) ≡ rs) × (length (design rs) ≡ k.components) × (length rs ≡ k.records)
accepted_lawful rs k a =
    let u = accepted_unbroken rs k a in
    let f = unbroken_finished rs u.0 in
    ((finished_lawful (design rs)).0 f.0, f.1, u.1, u.2)

pub lawful_accepted : (D : Design) → Lawful D → verdict (records D) ≡ accepted (record { components = length D; records = length (records D) })
lawful_accepted D h =
    let u = unbroken_accepted (records D) (finished_unbroken D ((finished_lawful D).1 h)) in
    rw (design_of_whole D h.whole) at u

pub answer_exactly : (rs : List Record) (a : Answer Counts) → (verdict rs ≡ a) ↔ Answers rs a
answer_exactly rs (accepted k) = (λ a. let h = accepted_lawful rs k a in (design rs, h.0, h.1, h.2, h.3), from)
  where
    from : Answers rs (accepted k) → verdict rs ≡ accepted k
    from (D, h, e, f, g) = ap verdict (sym e) ∙ lawful_accepted D h ∙ rw (e, f, g)
answer_exactly rs (refused r) = refusal_exactly rs r

pub unbroken_exactly : (rs : List Record) → ((p n : ℕ) → ¬ (Breaks rs p n)) ↔ ((D : Design) × Lawful D × (records D ≡ rs))
unbroken_exactly rs = (λ h. to h (verdict rs) ((answer_exactly rs (verdict rs)).0 refl), from)
  where
    to : ((p n : ℕ) → ¬ (Breaks rs p n)) → (a : Answer Counts) → Answers rs a → (D : Design) × Lawful D × (records D ≡ rs)
    to h (accepted k) (D, l, e, _, _) = (D, l, e)
    to h (refused r) x = absurd (h x.position x.number (broken rs x.position x.number x.breaks))

    from : (D : Design) × Lawful D × (records D ≡ rs) → (p n : ℕ) → ¬ (Breaks rs p n)
    from (D, l, e) = accepted_nowhere rs _ ((answer_exactly rs (accepted (record { components = length D; records = length rs }))).1 (D, l, e, refl, refl))

pub answered : (l : List (List Record × Answer Counts)) → map (λ t. verdict t.0) l ≡ map (λ t. t.1) l → Answered l
answered [] e = tt
answered (t ∷ l) e =
    let head : verdict t.0 ≡ t.1 = cc in
    let tail : map (λ t. verdict t.0) l ≡ map (λ t. t.1) l = cc in
    ((answer_exactly t.0 t.1).0 head, answered l tail)
