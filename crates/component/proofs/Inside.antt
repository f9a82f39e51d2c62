-- The invariant of the loop over one component's records, "what is left gives the whole", and how each record carries it on.
-- Assumes nothing.
use Prim.Native.Nat.{ℕ, zero, suc, ◌+◌, ◌-◌, ◌≤◌, ◌<◌}
use mathlib.Core.Path.{◌≡◌, refl, sym, subst}
use mathlib.Core.List.{List}
use native.Mathlib.Omega.{arith}
use lib.ListN.{drop, get_or, replicate, get_or-replicate}
use Rattle.reading.specs.Reader.{Row}
use Rattle.order.specs.Seen.{seen, closed}
use Rattle.reader.specs.declared.Invocations.{Invocations}
use Rattle.reader.specs.declared.Reader.{Reader}
use Rattle.reader.specs.Rows.{none, row_in}
use Rattle.reader.specs.Noted.{Noted}
use Rattle.reader.specs.State.{State, state, fresh, before, Few}
use Rattle.component.specs.declared.Progress.{Progress}
use Rattle.component.specs.Run.{after, Onward, Fit}
use Rattle.component.specs.Ahead.{ahead}
use Rattle.component.specs.Component.{Begun, Begins, run, HoldsRows}
use Rattle.component.proofs.Keeps.{begin_fits}
use Rattle.component.proofs.Turns.{stay}

-- The reader with what is kept of the invocations.
abbrev pub kept_state : Reader → (held : ℕ → Row) → Invocations → State
kept_state r h k = state r h k.instances k.offsets k.outputs k.firsts

abbrev pub Noting : Reader → Invocations → Type 0
Noting r k = Noted r k.instances k.offsets k.firsts k.least k.greatest

-- No argument is due before the first invocation.
abbrev pub Idle : State → Type 0
Idle s = s.place.invocations ≡ 0 → s.place.due ≡ 0

-- Before the first invocation or connection: the instances still ahead are those that have been looked up.
abbrev pub Coming : (file : List ℕ) → (n at : ℕ) → State → (i : ℕ) → Type 0
Coming file n at s i = s.place.invocations ≡ 0 → s.place.connections ≡ 0 → drop s.place.instances (ahead file (n - at) at 0) ≡ ahead file (n - i) i s.place.instances

module _ (file : List ℕ) (n : ℕ) (q : Progress) (held : List ℕ) where
  -- With the rows of the components before: what is held, and what is left.
  pub record Sofar (rows : ℕ → Row) (r : Reader) (k : Invocations) (i : ℕ) : Type 0 where
    pub h : ℕ → Row
    pub like : (m : ℕ) → m < r.place.instances → h m ≡ row_in held m
    pub onward : Onward file n (run rows q) q.at (after i rows (kept_state r h k)) i

  pub record Inside (r : Reader) (k : Invocations) (i : ℕ) : Type 0 where
    pub from : q.at ≤ i
    pub below : i ≤ n
    pub fit : Fit (kept_state r none k)
    pub input : r.input ≤ 65536 + i
    pub number : r.number ≡ q.count - 1
    pub counted : 0 < i → q.count ≡ r.number + 1
    pub first : i ≡ 0 → (seen r.place ≡ closed) × (r.number ≡ 0) × (q.count ≡ 0)
    pub idle : Idle (kept_state r none k)
    pub coming : Coming file n q.at (kept_state r none k) i
    pub sofar : (rows : ℕ → Row) → HoldsRows file n rows q.at (q.count - 1) held → Sofar rows r k i

pub few_of : (r : Reader) (h : ℕ → Row) (is os us fs : List ℕ) → Fit (state r h is os us fs) → Few r
few_of r h is os us fs w = record { number = w.number; inputs = w.few_inputs; outputs = w.few_outputs; connections = w.few_connections; delay = w.small_delay; first = w.small_first; offset = w.small_offset }

-- Where a component is about to be read.
record Starts (at count : ℕ) (s : State) : Type 0 where
  pub fit : Fit s
  pub input : s.input_record ≡ 0
  pub number : s.number ≡ count - 1
  pub counted : 0 < at → count ≡ s.number + 1
  pub first : at ≡ 0 → (s.place ≡ closed) × (s.number ≡ 0) × (count ≡ 0)
  pub idle : s.place.due ≡ 0
  pub uncalled : s.place.invocations ≡ 0
  pub none_yet : s.place.instances ≡ 0

before_fits : Fit before
before_fits =
    record { instances = refl; offsets = refl; outputs = refl; output_records = refl; number = omega arith; few_inputs = omega arith; few_outputs = omega arith; few_connections = omega arith; small_delay = omega arith; small_first = omega arith; small_offset = omega arith }

starts : (at count : ℕ) (s : State) → at ≤ 3968 → Begun at count s → Starts at count s
starts zero count s l (e, f) =
    subst (λ (z : State). Starts 0 count z) (sym f)
    (record { fit = before_fits; input = refl; number = (let y = e in omega arith); counted = λ z. absurd (omega arith); first = λ z. (refl, refl, e); idle = refl; uncalled = refl; none_yet = refl })
starts (suc p) count s l (k, d, c, e, few, small, f) =
    subst (λ (z : State). Starts (suc p) count z) (sym f)
    (record { fit = begin_fits k d p c few small (omega arith); input = refl; number = (let y = e in omega arith); counted = λ z. e; first = λ z. absurd (omega arith); idle = refl; uncalled = refl; none_yet = refl })

-- Of no invocation yet.
abbrev pub none_kept : Invocations
none_kept = record { instances = replicate 64 65535; offsets = replicate 64 0; outputs = replicate 64 0; firsts = replicate 64 0; least = replicate 32 65535; greatest = replicate 32 0 }

pub inside_first : (file : List ℕ) (n : ℕ) (q : Progress) (held : List ℕ) → q.at ≤ n → n ≤ 3968 → Begins q → Inside file n q held q.reader none_kept q.at
inside_first file n q held l few b =
    let s = starts q.at q.count (fresh q.reader) (omega arith) b in
    record {
      from = omega arith;
      below = l;
      fit = s.fit;
      input = (let y = s.input in omega arith);
      number = s.number;
      counted = s.counted;
      first = s.first;
      idle = λ z. s.idle;
      coming = λ y z. rw s.none_yet;
      sofar = λ rows g. record { h = none; like = λ m y. absurd (let z = s.none_yet in omega arith); onward = stay file n (run rows q) q.at };
    }

zeros_small : (n j : ℕ) → ◌≡◌ {A = ℕ} (get_or (replicate n 0) j 0) 0
zeros_small zero j = refl
zeros_small (suc n) zero = refl
zeros_small (suc n) (suc j) = zeros_small n j

-- Nothing is noted of invocations where there are none.
pub noted_first : (q : Progress) → q.at ≤ 3968 → Begins q → Noting q.reader none_kept
noted_first q l b =
    let s = starts q.at q.count (fresh q.reader) l b in
    let e : q.reader.place.invocations ≡ 0 = s.uncalled in
    let d : q.reader.place.due ≡ 0 = s.idle in
    record {
      low = λ j h. absurd (omega arith);
      high = λ j h. absurd (omega arith);
      small = λ j h. absurd (omega arith);
      unused = λ j h k. rw (get_or-replicate {A = ℕ} 64 j 65535 0 k) (omega arith);
      near = λ j. let y = zeros_small 64 j in omega arith;
      sizes = (refl, refl, refl, refl, refl);
      built = λ h. absurd (omega arith);
    }
