-- What is left of a body after its first n statements: so a walk is cut into lemmas inside a loop's turn, of which the generated MIR names only the whole (`turn-1`).
-- Assumes nothing.
use Prim.Native.Nat.{ℕ, zero, suc}
use mir.Syntax.{Body, skip, seq, assign, block, loop, cond, switch, exit, return, call, call_v, lend_static, unreachable}

abbrev rest_of : Body → Body
rest_of skip = skip
rest_of (seq a b) = b
rest_of (assign p rv) = skip
rest_of (block b) = skip
rest_of (loop b) = skip
rest_of (cond c a b) = skip
rest_of (switch c arms) = skip
rest_of (exit n) = skip
rest_of return = skip
rest_of (call f xs d) = skip
rest_of (call_v f k xs d) = skip
rest_of (lend_static x y z) = skip
rest_of unreachable = skip

abbrev pub after : ℕ → Body → Body
after zero b = b
after (suc n) b = after n (rest_of b)
