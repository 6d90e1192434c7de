-- Laws of the places that satisfy a test, of their number, and of a test that holds at every place. Assumes nothing.
use mathlib.Core.Path.{◌≡◌, refl, sym, ap, ap₂, subst, ◌∙◌}
use mathlib.Core.Logic.{⊎_elim}
use mathlib.Core.Bool.{Bool, true, false, cond, ◌&&◌, true≢false, and-eq-true_iff}
use mathlib.Core.List.{List, [], ◌∷◌, ◌++◌, append-nil}
use Prim.Native.Nat.{ℕ, zero, suc, ◌+◌, ◌-◌, ◌≤◌, ◌<◌, zero-le}
use native.Mathlib.Nat.{zero-add, add-zero, suc-add, le_refl, le_of_suc-le-suc, not-suc-le-zero, eq-or-lt_of_le}
use native.Mathlib.Numerals.{add-one}
use native.Mathlib.Omega.{arith}
use lib.ListN.{length, get_or, length-append}
use lib.IntN.{ℤ}
use lib.Signed.{lt_z, le_z}
use Rattle.places.specs.Places.{keep, hits, matches_of, tally, every, rising, Among}
use Rattle.places.specs.Inner.{Split}
use Rattle.places.proofs.Order.{le_z-refl, le_z-trans, lt_not}

-- ---- `keep`

pub keep-true : (t : Bool) (x : ℕ) (xs : List ℕ) → t ≡ true → keep t x xs ≡ x ∷ xs
unfolding keep
keep-true t x xs e = ap (λ b. cond b (x ∷ xs) xs) e

pub keep-false : (t : Bool) (x : ℕ) (xs : List ℕ) → t ≡ false → keep t x xs ≡ xs
unfolding keep
keep-false t x xs e = ap (λ b. cond b (x ∷ xs) xs) e

keep_append : (t : Bool) (x : ℕ) (xs ys : List ℕ) → keep t x (xs ++ ys) ≡ keep t x xs ++ ys
unfolding keep
keep_append true x xs ys = refl
keep_append false x xs ys = refl

keep-length : (t : Bool) (x : ℕ) (xs : List ℕ) → length (keep t x xs) ≡ length xs + cond t 1 0
unfolding keep
keep-length true x xs = sym (add-one _)
keep-length false x xs = sym (add-zero _)

-- what holds of x, where it is kept, and of each entry of xs
keep-each : (P : ℕ → Type 0) (t : Bool) (x : ℕ) (xs : List ℕ) → (t ≡ true → P x)
    → ((i : ℕ) → i < length xs → P (get_or xs i 0)) → (i : ℕ) → i < length (keep t x xs) → P (get_or (keep t x xs) i 0)
unfolding keep
keep-each P false x xs h k i l = k i l
keep-each P true x xs h k zero l = h refl
keep-each P true x xs h k (suc i) l = k i (le_of_suc-le-suc l)

keep-here : (t : Bool) (x : ℕ) (xs : List ℕ) → t ≡ true → Among x (keep t x xs)
unfolding keep
keep-here true x xs e = record { index = 0; inside = omega arith; is = refl }
keep-here false x xs e = absurd (true≢false (sym e))

keep-later : (t : Bool) (x : ℕ) (xs : List ℕ) {k : ℕ} → Among k xs → Among k (keep t x xs)
unfolding keep
keep-later true x xs m = record { index = suc m.index; inside = omega (arith, m.inside); is = m.is }
keep-later false x xs m = m

-- each entry is less than those after it
unfoldable pub Rises : List ℕ → Type 0
Rises xs = (i j : ℕ) → i < j → j < length xs → get_or xs i 0 < get_or xs j 0

keep-rises : (t : Bool) (x : ℕ) (xs : List ℕ) → ((i : ℕ) → i < length xs → x < get_or xs i 0)
    → Rises xs → Rises (keep t x xs)
unfolding keep Rises
keep-rises false x xs h r i j l m = r i j l m
keep-rises true x xs h r i zero l m = absurd (not-suc-le-zero l)
keep-rises true x xs h r zero (suc j) l m = h j (le_of_suc-le-suc m)
keep-rises true x xs h r (suc i) (suc j) l m = r i j (le_of_suc-le-suc l) (le_of_suc-le-suc m)

-- xs lists the places below n at which f holds
pub record Listed (f : ℕ → Bool) (n : ℕ) (xs : List ℕ) : Type 0 where
  -- a place is listed exactly when f holds there
  pub sound : (k : ℕ) → Among k xs → f k ≡ true
  pub complete : (k : ℕ) → k < n → f k ≡ true → Among k xs
  -- each listed place is below n, and they rise, so that each is listed once
  pub inside : (k : ℕ) → Among k xs → k < n
  pub rises : (i j : ℕ) → i < j → j < length xs → get_or xs i 0 < get_or xs j 0
  -- their number
  pub count : length xs ≡ tally f n

-- ---- `hits`: the stretch of n places from p on

-- k is in the stretch, and f holds there
pub record Hit (f : ℕ → Bool) (p n k : ℕ) : Type 0 where
  pub from : p ≤ k
  pub to : k < p + n
  pub holds : f k ≡ true

module _ (f : ℕ → Bool) where
  pub hits-add : (p m n : ℕ) → hits f p (m + n) ≡ hits f p m ++ hits f (p + m) n
  unfolding hits
  hits-add p zero n = ap₂ (hits f) (sym (add-zero p)) (zero-add n)
  hits-add p (suc m) n =
      let e : suc p + m ≡ p + suc m = omega arith in
      ap (hits f p) (suc-add m n) ∙ ap (keep (f p) p) (hits-add (suc p) m n) ∙ keep_append (f p) p _ _
      ∙ ap (λ q. keep (f p) p (hits f (suc p) m) ++ hits f q n) e

  pub hits-zero : (p : ℕ) → hits f p 0 ≡ []
  unfolding hits
  hits-zero p = refl

  hits-one : (p : ℕ) → hits f p 1 ≡ keep (f p) p []
  unfolding hits
  hits-one p = refl

  -- one more place, at the end
  pub hits_more : (p n : ℕ) → hits f p (n + 1) ≡ hits f p n ++ keep (f (p + n)) (p + n) []
  hits_more p n = hits-add p n 1 ∙ ap (λ l. hits f p n ++ l) (hits-one (p + n))

  pub hits-none : (p n : ℕ) → ((k : ℕ) → p ≤ k → k < p + n → f k ≡ false) → hits f p n ≡ []
  unfolding hits
  hits-none p zero h = refl
  hits-none p (suc n) h =
      keep-false (f p) p _ (h p (le_refl p) (omega arith))
      ∙ hits-none (suc p) n (λ k l m. h k (omega arith) (omega arith))

  -- where f fails outside a window, only the window counts
  pub hits-window : (lo hi n : ℕ) → lo ≤ hi → hi ≤ n
      → ((k : ℕ) → k < lo → f k ≡ false) → ((k : ℕ) → hi ≤ k → k < n → f k ≡ false)
      → matches_of f n ≡ hits f lo (hi - lo)
  unfolding matches_of
  hits-window lo hi n l m before after =
      let whole : n ≡ lo + (hi - lo + (n - hi)) = omega arith in
      let end : lo + (hi - lo) ≡ hi = omega arith in
      let front : hits f 0 lo ≡ [] = hits-none 0 lo (λ k _ h. before k (omega arith)) in
      let back : hits f hi (n - hi) ≡ [] = hits-none hi (n - hi) (λ k h i. after k h (omega arith)) in
      let past : hits f (lo + (hi - lo)) (n - hi) ≡ [] = ap (λ p. hits f p (n - hi)) end ∙ back in
      let rest : hits f (0 + lo) (hi - lo + (n - hi)) ≡ hits f lo (hi - lo) =
      ap (λ p. hits f p (hi - lo + (n - hi))) (zero-add lo) ∙ hits-add lo (hi - lo) (n - hi)
      ∙ ap (λ l. hits f lo (hi - lo) ++ l) past ∙ append-nil _ in
      ap (hits f 0) whole ∙ hits-add 0 lo _ ∙ ap₂ ◌++◌ front rest

  pub hits-sound : (p n i : ℕ) → i < length (hits f p n) → Hit f p n (get_or (hits f p n) i 0)
  unfolding hits
  hits-sound p zero i l = absurd (not-suc-le-zero l)
  hits-sound p (suc n) i l =
      let later : (j : ℕ) → j < length (hits f (suc p) n) → Hit f p (suc n) (get_or (hits f (suc p) n) j 0) = λ j m.
      let h : Hit f (suc p) n (get_or (hits f (suc p) n) j 0) = hits-sound (suc p) n j m in
      record { from = omega arith; to = omega arith; holds = h.holds } in
      keep-each (Hit f p (suc n)) (f p) p (hits f (suc p) n)
      (λ e. record { from = le_refl p; to = omega arith; holds = e }) later i l

  hits-among : (p n k : ℕ) → Among k (hits f p n) → Hit f p n k
  hits-among p n k m = rw (← m.is) (hits-sound p n m.index m.inside)

  pub hits-complete : (p n k : ℕ) → Hit f p n k → Among k (hits f p n)
  unfolding hits
  hits-complete p zero k h = absurd (omega (arith, h.from, h.to))
  hits-complete p (suc n) k h =
      ⊎_elim
      (λ e. subst (λ q. Among q (hits f p (suc n))) e (keep-here (f p) p (hits f (suc p) n) (ap f e ∙ h.holds)))
      (λ l.
      let later : Hit f (suc p) n k = record { from = l; to = omega (arith, h.to); holds = h.holds } in
      keep-later (f p) p (hits f (suc p) n) (hits-complete (suc p) n k later))
      (eq-or-lt_of_le h.from)

  pub hits-rising : (p n : ℕ) → Rises (hits f p n)
  unfolding hits Rises
  hits-rising p zero = λ i j l m. absurd (not-suc-le-zero m)
  hits-rising p (suc n) =
      keep-rises (f p) p (hits f (suc p) n) (λ i l. (hits-sound (suc p) n i l).from) (hits-rising (suc p) n)

  -- ---- all the places below n

  pub hits-length : (n : ℕ) → length (matches_of f n) ≡ tally f n
  unfolding matches_of hits tally
  hits-length zero = refl
  hits-length (suc n) =
      let more : length (hits f 0 (suc n)) ≡ length (hits f 0 n ++ keep (f n) n []) =
      ap (λ m. length (hits f 0 m)) (sym (add-one n)) ∙ ap length (hits_more 0 n)
      ∙ ap (λ k. length (hits f 0 n ++ keep (f k) k [])) (zero-add n) in
      more ∙ length-append (hits f 0 n) _ ∙ ap₂ ◌+◌ (hits-length n) (keep-length (f n) n [] ∙ zero-add _)

  pub matches-listed : (n : ℕ) → Listed f n (matches_of f n)
  unfolding matches_of Rises
  matches-listed n = record {
    sound = λ k m. (hits-among 0 n k m).holds;
    complete = λ k l e. hits-complete 0 n k (record { from = zero-le; to = omega arith; holds = e });
    inside = λ k m. omega (arith, (hits-among 0 n k m).to);
    rises = hits-rising 0 n;
    count = hits-length n;
  }

  -- ---- a test that holds at every place

  pub every-at : (n k : ℕ) → every f n ≡ true → k < n → f k ≡ true
  unfolding every
  every-at zero k e l = absurd (not-suc-le-zero l)
  every-at (suc n) k e l =
      ⊎_elim
      (λ q. ap f q ∙ ((and-eq-true_iff (every f n) (f n)).0 e).1)
      (λ m. every-at n k ((and-eq-true_iff (every f n) (f n)).0 e).0 m)
      (eq-or-lt_of_le (le_of_suc-le-suc l))

  pub every_of : (n : ℕ) → ((k : ℕ) → k < n → f k ≡ true) → every f n ≡ true
  unfolding every
  every_of zero h = refl
  every_of (suc n) h = ap₂ ◌&&◌ (every_of n (λ k l. h k (omega arith))) (h n (le_refl (suc n)))

  pub every-none : every f 0 ≡ true
  unfolding every
  every-none = refl

  pub every-next : (n : ℕ) → every f (n + 1) ≡ (every f n && f n)
  unfolding every
  every-next n = ap (every f) (add-one n)

  pub every_more : (n : ℕ) → every f n ≡ true → f n ≡ true → every f (n + 1) ≡ true
  every_more n h e = every-next n ∙ ap₂ ◌&&◌ h e

-- ---- a column that does not fall

module _ (g : ℕ → ℤ) where
  -- the places below j hold no more than j
  abbrev over : ℕ → Bool
  over j = every (λ i. le_z (g i) (g j)) j

  pub rising-at : (n i j : ℕ) → rising g n ≡ true → i ≤ j → j < n → le_z (g i) (g j) ≡ true
  unfolding rising
  rising-at n i j e l m =
      ⊎_elim
      (λ q. ap (λ k. le_z (g k) (g j)) q ∙ le_z-refl (g j))
      (λ h. every-at (λ k. le_z (g k) (g j)) j i (every-at over n j e m) h)
      (eq-or-lt_of_le l)

  -- neighbours suffice: what holds no less than the place before it holds no less than any before it
  pub rising-more : (i : ℕ) → rising g (i + 1) ≡ true → le_z (g i) (g (i + 1)) ≡ true → rising g (i + 1 + 1) ≡ true
  unfolding rising
  rising-more i r e =
      let below : (k : ℕ) → k < i + 1 → le_z (g k) (g (i + 1)) ≡ true = λ k l.
      le_z-trans (g k) (g i) (g (i + 1)) (rising-at (i + 1) k i r (omega arith) (omega arith)) e in
      every_more over (i + 1) r (every_of (λ k. le_z (g k) (g (i + 1))) (i + 1) below)

  pub rising-neighbours : (n : ℕ) → ((i : ℕ) → i + 1 < n → le_z (g i) (g (i + 1)) ≡ true) → rising g n ≡ true
  unfolding rising every
  rising-neighbours zero h = refl
  rising-neighbours (suc zero) h = refl
  rising-neighbours (suc (suc n)) h =
      let before : rising g (n + 1) ≡ true = rw (add-one n) (rising-neighbours (suc n) (λ i l. h i (omega arith))) in
      let e : n + 1 + 1 ≡ suc (suc n) = omega arith in
      rw e at (rising-more n before (h n (omega arith)))

-- ---- a window between two bounds: a and b split a column at lo and hi

module _ (g : ℕ → ℤ) (n : ℕ) (a b : ℤ) (order : le_z a b ≡ true) (lo hi : ℕ)
    (s : Split g n a lo) (t : Split g n b hi) where
  pub split-order : lo ≤ hi
  split-order =
      let crossed : hi < lo → ⊥ = λ l.
      let b_le = t.above hi (le_refl hi) (omega (arith, s.size)) in
      true≢false (sym (le_z-trans a b (g hi) order b_le) ∙ lt_not (g hi) a (s.below hi l)) in
      omega (arith, crossed)

  -- f fails below a and from b on, so only the places from lo up to hi count
  pub matches-between : (f : ℕ → Bool) → ((k : ℕ) → k < n → lt_z (g k) a ≡ true → f k ≡ false)
      → ((k : ℕ) → k < n → le_z b (g k) ≡ true → f k ≡ false) → matches_of f n ≡ hits f lo (hi - lo)
  matches-between f under over =
      hits-window f lo hi n split-order t.size
      (λ k l. under k (omega (arith, s.size)) (s.below k l))
      (λ k l m. over k m (t.above k l m))
