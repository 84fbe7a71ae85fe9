-- The flags of a side as one number (document 01, 'Running and viewing').
use Rattle.std.specs.Prelude.{ℕ, zero, suc, ◌+◌, ◌*◌, ◌^◌, Bool, cond}

-- a set of the flags of n arrays: bit a is array a
unfoldable pub mask : ℕ → (ℕ → Bool) → ℕ
mask zero flag = 0
mask (suc n) flag = cond (flag n) 1 0 * 2 ^ n + mask n flag
