-- The bytes of an answer: an entry is two numbers put one behind the other; how long lists and records are. Assumes nothing.
use Prim.Native.Nat.{ℕ, ◌+◌, ◌*◌, ◌≤◌}
use mathlib.Core.Path.{◌≡◌, refl, ap, sym, ◌∙◌}
use mathlib.Core.List.{List, [], ◌∷◌, ◌++◌, append_assoc}
use native.Mathlib.Omega.{arith}
use lib.ListN.{length, take, drop, length-append, length-drop}
use lib.Seq.{length-take-le, drop-drop}
use borrow.Author.Tests.{le-ltb}
use Rattle.bigendian.specs.Numbers.{bytes_of}
use Rattle.bigendian.specs.Buffers.{at_front}
use Rattle.bigendian.proofs.Buffers.{front_none}
use Rattle.record.specs.Format.{record_length}
use Rattle.rescue.specs.Walk.{range}
use Rattle.rescue.specs.declared.Range.{Range}
use Rattle.rescue.specs.Rescue.{entry_length, entry_bytes, records_at, list_bytes}
use Rattle.rescue.specs.Inner.{range_to}
use Rattle.rescue.specs.Claims.{Each}

-- ---- an entry

pub list_length : (rs : List Range) → length (list_bytes rs) ≡ entry_length * length rs
list_length [] = refl
list_length (r ∷ rs) = omega (arith, list_length rs)

pub list_append : (rs qs : List Range) → list_bytes (rs ++ qs) ≡ list_bytes rs ++ list_bytes qs
list_append [] qs = refl
list_append (r ∷ rs) qs = ap (λ (l : List ℕ). bytes_of 4 r.start ++ (bytes_of 4 r.size ++ l)) (list_append rs qs)

-- a start and a length, put one behind the other
pub entry_put : (a b : ℕ) (old one two : List ℕ) → one ≡ take 0 old ++ (bytes_of 4 a ++ drop 4 old) → two ≡ take 4 one ++ (bytes_of 4 b ++ drop 8 one)
    → two ≡ at_front (entry_bytes (range a b)) old
unfolding at_front
entry_put a b old one two p q =
    q ∙ (ap (λ (l : List ℕ). take 4 l ++ (bytes_of 4 b ++ drop 8 l)) p ∙ ap (λ (l : List ℕ). bytes_of 4 a ++ (bytes_of 4 b ++ l)) (drop-drop 4 4 old))

-- what is put where there is no range
pub range_none : (i j : ℕ) (old : List ℕ) → j ≤ i → old ≡ at_front (list_bytes (range_to i j)) old
range_none i j old h = rw (le-ltb i j h) (sym (front_none old))

-- ---- a record

-- records at places that have thirty bytes each
pub records_length : (s is : List ℕ) → Each (λ i. i + record_length ≤ length s) is → length (records_at s is) ≡ record_length * length is
records_length s [] h = refl
records_length s (i ∷ is) h =
    let e : length (take record_length (drop i s)) ≡ record_length = length-take-le record_length (drop i s) (omega (arith, length-drop i s, h.0)) in
    simp (length-append, e) (omega (arith, records_length s is h.1))

pub records_append : (s is js : List ℕ) → records_at s (is ++ js) ≡ records_at s is ++ records_at s js
records_append s [] js = refl
records_append s (i ∷ is) js = ap (λ (l : List ℕ). take record_length (drop i s) ++ l) (records_append s is js) ∙ sym (append_assoc (take record_length (drop i s)) (records_at s is) (records_at s js))
