-- The definitions at one instant, computed: day 54465, microsecond 0, which is the test case of RG_ZONT2. The day's index is 149018. And the distances
-- of the five arguments, as they are worked out.
-- Assumes nothing.
use mathlib.Core.Path.{◌≡◌, refl}
use mathlib.Core.List.{[], ◌∷◌}
use lib.IntN.{pow, one}
use Rattle.algebra.specs.Integers.{+◌}
use Rattle.instants.specs.Moments.{since_j2000, moment}
use Rattle.arguments.specs.Exact.{exact_row_angle}
use Rattle.arguments.specs.Ours.{our_arguments, our_row_angle}
use Rattle.arguments.proofs.Distance.{argument_distances}

five : our_arguments (moment 149018 0) ≡ 801882226400 ∷ 2174435311123 ∷ 1280255697211 ∷ 1593882452472 ∷ 2018172516421 ∷ []
five = refl

-- the rows 40 and 62, counted from 1: 1, 0, -2, 2, -1 and 0, 0, 0, 0, 1
fortieth : our_row_angle 39 (moment 149018 0) ≡ 1609986476053
fortieth = refl

last : our_row_angle 61 (moment 149018 0) ≡ 2018172516421
last = refl

exact_fortieth : exact_row_angle 39 (since_j2000 (+ 54465) 0) ≡ 261403124820962461442910938298082562113536000000000000000000000000000000000
unfolding pow one
exact_fortieth = refl

exact_last : exact_row_angle 61 (since_j2000 (+ 54465) 0) ≡ 327677660690807339600010868533187635019776000000000000000000000000000000000
unfolding pow one
exact_last = refl

-- the distances of l, l', F, D and Omega, in units of 2^-41 turn
argument_distances_are : argument_distances ≡ 66 ∷ 9 ∷ 31 ∷ 20 ∷ 24 ∷ []
unfolding argument_distances
argument_distances_are = refl
