-- Two answers that say the same are the same: a contract that gives what an answer says leaves one answer.
-- Assumes nothing.
use Rattle.std.specs.Prelude.{ℕ, ◌≡◌, refl, cond, eqb, Result, Ok, Err}
use Rattle.std.proofs.Common.{ap, sym, ◌∙◌, arith}
use Rattle.answers.specs.declared.fault.Fault.{Fault}
use Rattle.answers.specs.declared.Refusal.{Refusal as Found}
use Rattle.answers.specs.Fault.{number}
use Rattle.answers.specs.Answer.{Answer, accepted, refused, then, Refusal, refusal, Numbered, Sure, Counts, answer}

-- An acceptance is no refusal, and a refusal tells itself.
pub apart : {A : Type 0} {a : A} {r : Refusal} → accepted a ≡ refused r → ⊥
apart e = let z : ◌≡◌ {A = ℕ} 0 1 = cc in omega arith

pub one_refusal : {A : Type 0} {r q : Refusal} → ◌≡◌ {A = Answer A} (refused r) (refused q) → r ≡ q
one_refusal e = cc

-- What is sure of two answers, one after the other; and of a refusal that an answer is.
pub sure_then : {A B : Type 0} (a : Answer A) (next : A → Answer B) → Sure a → ((k : A) → Sure (next k)) → Sure (then a next)
sure_then (accepted k) next s t = t k
sure_then (refused r) next s t = s

pub sure_refused : {A : Type 0} {a : Answer A} {r : Refusal} → Sure a → a ≡ refused r → Numbered r.number
sure_refused s e = rw e at s

-- The name with a number.
abbrev pub named : ℕ → Fault
named n =
    cond (eqb n 1) Fault.Length (
    cond (eqb n 2) Fault.Check (
    cond (eqb n 3) Fault.Header (
    cond (eqb n 4) Fault.Record (
    cond (eqb n 5) Fault.Place (
    cond (eqb n 6) Fault.TooMany (
    cond (eqb n 7) Fault.Reference (
    cond (eqb n 8) Fault.Width (
    cond (eqb n 9) Fault.Interval (
    cond (eqb n 10) Fault.Spacing (
    cond (eqb n 11) Fault.Span (
    cond (eqb n 12) Fault.Reading (
    cond (eqb n 13) Fault.Room Fault.Absent))))))))))))

pub named_number : (f : Fault) → named (number f) ≡ f
named_number Fault.Length = refl
named_number Fault.Check = refl
named_number Fault.Header = refl
named_number Fault.Record = refl
named_number Fault.Place = refl
named_number Fault.TooMany = refl
named_number Fault.Reference = refl
named_number Fault.Width = refl
named_number Fault.Interval = refl
named_number Fault.Spacing = refl
named_number Fault.Span = refl
named_number Fault.Reading = refl
named_number Fault.Room = refl
named_number Fault.Absent = refl

-- No two names have one number, and none has 0.
pub one_fault : (f g : Fault) → number f ≡ number g → f ≡ g
one_fault f g e = let p = named_number f in let q = named_number g in let m = ap named e in cc

pub numbered : (f : Fault) → Numbered (number f)
numbered Fault.Length = omega arith
numbered Fault.Check = omega arith
numbered Fault.Header = omega arith
numbered Fault.Record = omega arith
numbered Fault.Place = omega arith
numbered Fault.TooMany = omega arith
numbered Fault.Reference = omega arith
numbered Fault.Width = omega arith
numbered Fault.Interval = omega arith
numbered Fault.Spacing = omega arith
numbered Fault.Span = omega arith
numbered Fault.Reading = omega arith
numbered Fault.Room = omega arith
numbered Fault.Absent = omega arith

pub one_found : (r q : Found) → refusal (number r.fault) r.position ≡ refusal (number q.fault) q.position → r ≡ q
one_found r q e = let f = one_fault r.fault q.fault (ap (λ (x : Refusal). x.number) e) in let p = ap (λ (x : Refusal). x.position) e in
    ap (λ (x : Fault). record { fault = x; position = r.position }) f ∙ ap (λ (x : ℕ). record { fault = q.fault; position = x }) p

pub one_answer : {A : Type 0} (a b : Result A Found) → answer a ≡ answer b → a ≡ b
one_answer (Ok n) (Ok m) e = cc
one_answer (Ok n) (Err q) e = absurd (apart e)
one_answer (Err r) (Ok m) e = absurd (apart (sym e))
one_answer (Err r) (Err q) e = ap Err (one_found r q (one_refusal e))

-- The same of each kind of answer: how many records, bytes or rows; that a record is there; and the counts of a verdict.
pub one_counted : (a b : Result ℕ Found) → answer a ≡ answer b → a ≡ b
one_counted = one_answer

pub one_written : (a b : Result ℕ Found) → answer a ≡ answer b → a ≡ b
one_written = one_answer

pub one_lookup : (a b : Result Unit Found) → answer a ≡ answer b → a ≡ b
one_lookup = one_answer

pub one_verdict : (a b : Result Counts Found) → answer a ≡ answer b → a ≡ b
one_verdict = one_answer
