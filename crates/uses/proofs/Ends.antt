-- The greatest end, port by port.
use Rattle.std.proofs.Common.{◌≡◌, ◌+◌, ℕ}
use mathlib.Core.Path.{refl}
use native.Mathlib.Numerals.{add-one}
use Rattle.std.specs.Prelude.{max}
use Rattle.std.specs.Option.{option_map, unwrap_or}
use Rattle.parts.specs.declared.kind.Kind.{Kind}
use Rattle.parts.specs.Parts.{Component, port}
use Rattle.uses.specs.Seen.{ends_below}

module _ (C : Component) where
  pub ends_none : ends_below C 0 ≡ 0
  unfolding ends_below
  ends_none = refl

  pub ends_more : (n : ℕ) → ends_below C (n + 1) ≡ max (max (ends_below C n) (unwrap_or (option_map (λ p. p.end) (port C Kind.Input n)) 0)) (unwrap_or (option_map (λ p. p.end) (port C Kind.Output n)) 0)
  unfolding ends_below
  ends_more n = rw (add-one n)
