-- The words of promises on binary64 numbers. A finite number fin s m e is m * 2 ^ e, the fraction (m * up e) / down e, negative where s is true.
use Rattle.std.specs.Prelude.{ℕ, ◌+◌, ◌*◌, ◌^◌, ◌<◌, ◌≡◌, Bool, false, not, ◌&&◌, leb, Float}
use Rattle.std.specs.Float.{nan, inf, fin}
use Rattle.std.specs.Float.Ieee.{up, down}

-- neither a NaN nor an infinity
abbrev pub Finite : Float → Type 0
Finite nan = ⊥
Finite (inf s) = ⊥
Finite (fin s m e) = Unit

-- x is finite, has the sign +, and is below the period, which is finite
abbrev pub InRange : (period x : Float) → Type 0
InRange nan x = ⊥
InRange (inf t) x = ⊥
InRange (fin t n d) nan = ⊥
InRange (fin t n d) (inf s) = ⊥
InRange (fin t n d) (fin s m e) = (s ≡ false) × (m * up e * down d < n * up d * down e)

-- x is finite, has the sign +, and is at most 10^-near from a decimal number, given by its places and its digits
unfoldable pub within : (near places digits : ℕ) (x : Float) → Bool
within near places digits nan = false
within near places digits (inf s) = false
within near places digits (fin s m e) =
    let x = m * up e * 10 ^ (near + places) in
    let y = digits * 10 ^ near * down e in
    let far = 10 ^ places * down e in
    not s && (leb x (y + far) && leb y (x + far))
