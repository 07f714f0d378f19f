-- The halving rule. A probe leaves a bracket that is narrower, so that the width is deep enough for the recursion and the rule is a probe and the rest.
-- A bracket around x stays around it. One that is at most 2^p wide is at most 2^(p-1) wide after a probe, so that p probes make its ends neighbours.
-- Assumes nothing.
use mathlib.Core.Path.{◌≡◌, refl, sym, ◌∙◌, ap}
use mathlib.Core.Bool.{true, false, not}
use mathlib.Core.List.{List}
use Prim.Native.Nat.{ℕ, zero, suc, ◌+◌, ◌*◌, ◌-◌, ◌/◌, ◌^◌, ◌≤◌, ◌<◌}
use native.Mathlib.Nat as N
use native.Mathlib.Omega.{arith}
use lib.Dec.{T, leb→le, nleb→lt}
use borrow.Author.Tests.{le-leb, lt-leb}
use Rattle.algebra.proofs.Tests.{by_test, cond_case}
use Rattle.rows.specs.declared.Row.{Row}
use Rattle.rows.specs.Table.{row_at}
use Rattle.rows.specs.Places.{row_moment}
use Rattle.row_places.specs.declared.Bracket.{Bracket}
use Rattle.row_places.specs.Lookup.{bracket, neighbours, middle, reached, probed, probing, halving}

module _ (rows : List Row) (x : ℕ) where
  -- ---- the date of a row

  at_or_before : (i : ℕ) → T (reached rows x i) → row_moment (row_at rows i) ≤ x
  at_or_before i t = omega (arith, leb→le _ x t)

  later : (i : ℕ) → T (not (reached rows x i)) → x < row_moment (row_at rows i)
  later i t = omega (arith, nleb→lt _ x t)

  reached_yes : (i : ℕ) → row_moment (row_at rows i) ≤ x → reached rows x i ≡ true
  reached_yes i h = le-leb _ x (omega arith)

  reached_no : (i : ℕ) → x < row_moment (row_at rows i) → reached rows x i ≡ false
  reached_no i h = lt-leb _ x (omega arith)

  -- ---- one probe, of a bracket whose ends are not neighbours

  narrower : (b : Bracket) → b.lower + 1 < b.upper → suc ((probed rows x b).upper - (probed rows x b).lower) ≤ b.upper - b.lower
  narrower b h =
      cond_case (reached rows x (middle b)) (λ (q : Bracket). suc (q.upper - q.lower) ≤ b.upper - b.lower)
      (λ t. omega arith)
      (λ t. omega arith)

  -- where the middle row is dated at or before x, and where it is later
  pub probed_up : (b : Bracket) → row_moment (row_at rows (middle b)) ≤ x → probed rows x b ≡ bracket (middle b) b.upper (b.probes + 1)
  probed_up b h = rw (reached_yes (middle b) h) refl

  pub probed_down : (b : Bracket) → x < row_moment (row_at rows (middle b)) → probed rows x b ≡ bracket b.lower (middle b) (b.probes + 1)
  probed_down b h = rw (reached_no (middle b) h) refl

  -- ---- the width is deep enough

  -- nothing is left to do
  pub probing_done : (w : ℕ) (b : Bracket) → b.upper ≤ b.lower + 1 → probing w rows x b ≡ b
  unfolding probing
  probing_done zero b h = refl
  probing_done (suc w) b h = rw (le-leb b.upper (b.lower + 1) h) refl

  probing_enough : (v w : ℕ) (b : Bracket) → b.upper - b.lower ≤ v → b.upper - b.lower ≤ w → probing v rows x b ≡ probing w rows x b
  unfolding probing
  probing_enough zero w b h k = sym (probing_done w b (omega arith))
  probing_enough (suc v) zero b h k = probing_done (suc v) b (omega arith)
  probing_enough (suc v) (suc w) b h k =
      by_test (neighbours b) (λ t. let l = leb→le b.upper (b.lower + 1) t in probing_done (suc v) b l ∙ sym (probing_done (suc w) b l))
      (λ t. let l = nleb→lt b.upper (b.lower + 1) t in
      rw (lt-leb b.upper (b.lower + 1) l) (probing_enough v w (probed rows x b) (omega (arith, narrower b l)) (omega (arith, narrower b l))))

  -- the rule at neighbours, and elsewhere
  pub halving_done : (b : Bracket) → b.upper ≤ b.lower + 1 → halving rows x b ≡ b
  unfolding halving
  halving_done b h = probing_done (b.upper - b.lower) b h

  pub halving_goes_on : (b : Bracket) → b.lower + 1 < b.upper → halving rows x b ≡ halving rows x (probed rows x b)
  unfolding halving probing
  halving_goes_on b h = go (b.upper - b.lower) refl
    where
      go : (w : ℕ) → w ≡ b.upper - b.lower → probing w rows x b ≡ halving rows x (probed rows x b)
      go zero e = absurd (omega arith)
      go (suc w) e = rw (lt-leb b.upper (b.lower + 1) h) (probing_enough w _ (probed rows x b) (omega (arith, narrower b h)) (N.le_refl _))

  -- PROMISE. The rule written out, of the rows l and u after p probes: neighbours are what it gives; else the middle row takes the place of l where it is
  -- dated at or before x, and that of u where it is later, and the rule goes on after one more probe.
  pub halving_neighbours : (l u p : ℕ) → u ≤ l + 1 → halving rows x (bracket l u p) ≡ bracket l u p
  halving_neighbours l u p h = halving_done (bracket l u p) h

  pub halving_lower : (l u p : ℕ) → l + 1 < u → row_moment (row_at rows ((l + u) / 2)) ≤ x → halving rows x (bracket l u p) ≡ halving rows x (bracket ((l + u) / 2) u (p + 1))
  halving_lower l u p h k = halving_goes_on (bracket l u p) h ∙ ap (halving rows x) (probed_up (bracket l u p) k)

  pub halving_upper : (l u p : ℕ) → l + 1 < u → x < row_moment (row_at rows ((l + u) / 2)) → halving rows x (bracket l u p) ≡ halving rows x (bracket l ((l + u) / 2) (p + 1))
  halving_upper l u p h k = halving_goes_on (bracket l u p) h ∙ ap (halving rows x) (probed_down (bracket l u p) k)

  -- ---- what it finds

  -- what each probe keeps holds in the end, of two neighbours or one row
  probing_keeps : (P : Bracket → Type 0) → ((b : Bracket) → b.lower + 1 < b.upper → P b → P (probed rows x b)) → (w : ℕ) (b : Bracket) → b.upper - b.lower ≤ w → P b
      → P (probing w rows x b) × ((probing w rows x b).upper ≤ (probing w rows x b).lower + 1)
  unfolding probing
  probing_keeps P step zero b h p = (p, omega arith)
  probing_keeps P step (suc w) b h p =
      by_test (neighbours b) (λ t. let l = leb→le b.upper (b.lower + 1) t in rw (le-leb b.upper (b.lower + 1) l) (p, l))
      (λ t. let l = nleb→lt b.upper (b.lower + 1) t in
      rw (lt-leb b.upper (b.lower + 1) l) (probing_keeps P step w (probed rows x b) (omega (arith, narrower b l)) (step b l p)))

  -- ends on both sides of x, of a table of n rows
  pub record Spans (n : ℕ) (b : Bracket) : Type 0 where
    pub apart : b.lower < b.upper
    pub within : b.upper < n
    pub low : row_moment (row_at rows b.lower) ≤ x
    pub high : x < row_moment (row_at rows b.upper)

  probed_spans : (n : ℕ) (b : Bracket) → b.lower + 1 < b.upper → Spans n b → Spans n (probed rows x b)
  probed_spans n b h s =
      cond_case (reached rows x (middle b)) (Spans n)
      (λ t. record { apart = omega arith; within = s.within; low = at_or_before (middle b) t; high = s.high })
      (λ t. record { apart = omega arith; within = omega (arith, s.within); low = s.low; high = later (middle b) t })

  -- neighbours on both sides of x
  pub halving_spans : (n : ℕ) (b : Bracket) → Spans n b → Spans n (halving rows x b) × ((halving rows x b).upper ≤ (halving rows x b).lower + 1)
  unfolding halving
  halving_spans n b s = probing_keeps (Spans n) (probed_spans n) (b.upper - b.lower) b (N.le_refl _) s

  -- ---- how many probes it takes

  half : (b : Bracket) (k : ℕ) → b.upper - b.lower ≤ k * 2 → (probed rows x b).upper - (probed rows x b).lower ≤ k
  half b k h = cond_case (reached rows x (middle b)) (λ (q : Bracket). q.upper - q.lower ≤ k) (λ t. omega arith) (λ t. omega arith)

  one_more : (b : Bracket) → (probed rows x b).probes ≡ b.probes + 1
  one_more b = cond_case (reached rows x (middle b)) (λ (q : Bracket). q.probes ≡ b.probes + 1) (λ t. refl) (λ t. refl)

  probing_most : (p w : ℕ) (b : Bracket) → b.upper - b.lower ≤ 2 ^ p → (probing w rows x b).probes ≤ b.probes + p
  unfolding probing
  probing_most zero w b h = rw (probing_done w b (omega arith)) (omega arith)
  probing_most (suc p) zero b h = omega arith
  probing_most (suc p) (suc w) b h =
      cond_case (neighbours b) (λ (q : Bracket). q.probes ≤ b.probes + suc p) (λ t. omega arith)
      (λ t. omega (arith, probing_most p w (probed rows x b) (half b (2 ^ p) (N.le_trans h (N.le_of_eq (N.pow-suc 2 p)))), one_more b))

  -- PROMISE. From a bracket that is at most 2^p wide it takes at most p.
  pub halving_most : (p : ℕ) (b : Bracket) → b.upper - b.lower ≤ 2 ^ p → (halving rows x b).probes ≤ b.probes + p
  unfolding halving
  halving_most p b h = probing_most p (b.upper - b.lower) b h
