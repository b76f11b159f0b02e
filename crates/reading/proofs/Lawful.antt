-- Readings that agree with what is written, and how they are joined.
use Rattle.std.proofs.Common.{◌≡◌, ℕ, ◌+◌, ◌<◌, ◌≤◌, List, ◌++◌, length, take, drop, sym, refl, ap, ◌∙◌, subst, append_assoc, arith, length-append, drop-drop}
use lib.Seq.{drop-append_seam, take-append-add}
use Rattle.reading.specs.Outcomes.{Outcome, Got, Stuck, past, mapped, continued, both}

-- some value's text begins with these bytes
pub record Starts {A : Type 0} (text : A → List ℕ) (Fits : A → Type 0) (bytes : List ℕ) : Type 0 where
  pub value : A
  pub fits : Fits value
  pub rest : List ℕ
  pub whole : bytes ++ rest ≡ text value

-- a value was read from the front
pub record Read {A : Type 0} (text : A → List ℕ) (Fits : A → Type 0) (bytes : List ℕ) (value : A) (n : ℕ) : Type 0 where
  pub fits : Fits value
  pub long : n ≡ length (text value)
  pub whole : bytes ≡ text value ++ drop n bytes

-- no value's text goes on so
pub record Ends {A : Type 0} (read : List ℕ → Outcome A) (text : A → List ℕ) (Fits : A → Type 0) (bytes : List ℕ) (place : ℕ) : Type 0 where
  pub within : place ≤ length bytes
  pub starts : Starts text Fits (take place bytes)
  pub stays : place < length bytes → (ys : List ℕ) → read (take (place + 1) bytes ++ ys) ≡ Stuck place

pub record Lawful {A : Type 0} (text : A → List ℕ) (Fits : A → Type 0) (read : List ℕ → Outcome A) : Type 0 where
  pub reads : (a : A) → Fits a → (rest : List ℕ) → read (text a ++ rest) ≡ Got a (length (text a))
  pub got : (bytes : List ℕ) (a : A) (n : ℕ) → read bytes ≡ Got a n → Read text Fits bytes a n
  pub stuck : (bytes : List ℕ) (p : ℕ) → read bytes ≡ Stuck p → Ends read text Fits bytes p

pub got_same : {A : Type 0} {a b : A} {m n : ℕ} → Got a m ≡ Got b n → (a ≡ b) × (m ≡ n)
got_same e = (cc, cc)

pub stuck_same : {A : Type 0} {p q : ℕ} → ◌≡◌ {A = Outcome A} (Stuck p) (Stuck q) → p ≡ q
stuck_same e = cc

pub stuck_got : {A : Type 0} {a : A} {n p : ℕ} → Stuck p ≡ Got a n → ⊥
stuck_got e = cc

pub got_stuck : {A : Type 0} {a : A} {n p : ℕ} → Got a n ≡ Stuck p → ⊥
got_stuck e = cc

-- one reading after another
module _ {A B : Type 0} {ta : A → List ℕ} {FA : A → Type 0} {ra : List ℕ → Outcome A} {tb : B → List ℕ} {FB : B → Type 0} {rb : List ℕ → Outcome B}
    (la : Lawful ta FA ra) (lb : Lawful tb FB rb) (some : B) (some_Fits : FB some) where
  abbrev pub both_text : A × B → List ℕ
  both_text v = ta v.0 ++ tb v.1

  abbrev pub both_fits : A × B → Type 0
  both_fits v = FA v.0 × FB v.1

  -- after the first is read, the second decides
  after_first : (a : A) → FA a → (xs : List ℕ) → both ra rb (ta a ++ xs) ≡ past (length (ta a)) (mapped (λ b. (a, b)) (rb xs))
  after_first a fa xs =
      ap (λ o. continued o rb (ta a ++ xs)) (la.reads a fa xs)
      ∙ ap (λ l. past (length (ta a)) (mapped (λ b. (a, b)) (rb l))) (drop-append_seam (ta a) xs)

  both_reads : (v : A × B) → both_fits v → (rest : List ℕ) → both ra rb (both_text v ++ rest) ≡ Got v (length (both_text v))
  both_reads v f rest =
      let a = v.0 in
      let b = v.1 in
      ap (both ra rb) (append_assoc (ta a) (tb b) rest)
      ∙ after_first a f.0 (tb b ++ rest)
      ∙ ap (λ o. past (length (ta a)) (mapped (λ b. (a, b)) o)) (lb.reads b f.1 rest)
      ∙ ap (Got v) (sym (length-append (ta a) (tb b)))

  second_got : (bytes : List ℕ) (a : A) (k : ℕ) → Read ta FA bytes a k → (o : Outcome B) → rb (drop k bytes) ≡ o → (v : A × B) (n : ℕ)
      → past k (mapped (λ b. (a, b)) o) ≡ Got v n → Read both_text both_fits bytes v n
  second_got bytes a k r (Stuck p) e v n h = absurd (stuck_got h)
  second_got bytes a k r (Got b m) e v n h =
      let s = lb.got (drop k bytes) b m e in
      let w : Read both_text both_fits bytes (a, b) (k + m) = record {
        fits = (r.fits, s.fits);
        long = omega (arith, r.long, s.long, length-append (ta a) (tb b));
        whole = r.whole ∙ ap (λ l. ta a ++ l) (s.whole ∙ ap (λ l. tb b ++ l) (drop-drop m k bytes)) ∙ sym (append_assoc (ta a) (tb b) (drop (k + m) bytes));
      } in
      subst (λ u. Read both_text both_fits bytes u n) (got_same h).0 (subst (Read both_text both_fits bytes (a, b)) (got_same h).1 w)

  first_got : (bytes : List ℕ) (o : Outcome A) → ra bytes ≡ o → (v : A × B) (n : ℕ) → continued o rb bytes ≡ Got v n → Read both_text both_fits bytes v n
  first_got bytes (Stuck p) e v n h = absurd (stuck_got h)
  first_got bytes (Got a k) e v n h = second_got bytes a k (la.got bytes a k e) (rb (drop k bytes)) refl v n h

  first_ends : (bytes : List ℕ) (p : ℕ) → ra bytes ≡ Stuck p → Ends (both ra rb) both_text both_fits bytes p
  first_ends bytes p e =
      let f = la.stuck bytes p e in
      record {
        within = f.within;
        starts = record {
          value = (f.starts.value, some);
          fits = (f.starts.fits, some_Fits);
          rest = f.starts.rest ++ tb some;
          whole = sym (append_assoc (take p bytes) f.starts.rest (tb some)) ∙ ap (λ l. l ++ tb some) f.starts.whole;
        };
        stays = λ l ys. ap (λ o. continued o rb (take (p + 1) bytes ++ ys)) (f.stays l ys);
      }

  second_ends : (a : A) → FA a → (xs : List ℕ) (p : ℕ) → rb xs ≡ Stuck p → Ends (both ra rb) both_text both_fits (ta a ++ xs) (length (ta a) + p)
  second_ends a fa xs p e =
      let f = lb.stuck xs p e in
      let n = length (ta a) in
      record {
        within = omega (arith, length-append (ta a) xs, f.within);
        starts = record {
          value = (a, f.starts.value);
          fits = (fa, f.starts.fits);
          rest = f.starts.rest;
          whole = ap (λ l. l ++ f.starts.rest) (take-append-add (ta a) xs p) ∙ append_assoc (ta a) (take p xs) f.starts.rest ∙ ap (λ l. ta a ++ l) f.starts.whole;
        };
        stays = λ l ys.
            ap (λ i. both ra rb (take i (ta a ++ xs) ++ ys)) (omega arith)
            ∙ ap (λ l. both ra rb (l ++ ys)) (take-append-add (ta a) xs (p + 1))
            ∙ ap (both ra rb) (append_assoc (ta a) (take (p + 1) xs) ys)
            ∙ after_first a fa (take (p + 1) xs ++ ys)
            ∙ ap (λ o. past n (mapped (λ b. (a, b)) o)) (f.stays (omega (arith, length-append (ta a) xs, l)) ys);
      }

  second_stuck : (bytes : List ℕ) (a : A) (k : ℕ) → Read ta FA bytes a k → (o : Outcome B) → rb (drop k bytes) ≡ o → (q : ℕ)
      → past {A = A × B} k (mapped (λ b. (a, b)) o) ≡ Stuck q → Ends (both ra rb) both_text both_fits bytes q
  second_stuck bytes a k r (Got b m) e q h = absurd (got_stuck h)
  second_stuck bytes a k r (Stuck p) e q h =
      subst (Ends (both ra rb) both_text both_fits bytes) (ap (λ i. i + p) (sym r.long) ∙ stuck_same h)
      (subst (λ l. Ends (both ra rb) both_text both_fits l (length (ta a) + p)) (sym r.whole) (second_ends a r.fits (drop k bytes) p e))

  first_stuck : (bytes : List ℕ) (o : Outcome A) → ra bytes ≡ o → (q : ℕ) → continued o rb bytes ≡ Stuck q → Ends (both ra rb) both_text both_fits bytes q
  first_stuck bytes (Stuck p) e q h = subst (Ends (both ra rb) both_text both_fits bytes) (stuck_same h) (first_ends bytes p e)
  first_stuck bytes (Got a k) e q h = second_stuck bytes a k (la.got bytes a k e) (rb (drop k bytes)) refl q h

  pub both_lawful : Lawful both_text both_fits (both ra rb)
  both_lawful = record {
    reads = both_reads;
    got = λ bytes v n h. first_got bytes (ra bytes) refl v n h;
    stuck = λ bytes q h. first_stuck bytes (ra bytes) refl q h;
  }
