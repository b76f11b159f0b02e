-- The reading of a number agrees with what is written.
use Rattle.std.proofs.Common.{◌≡◌, ℕ, zero, suc, ◌+◌, ◌-◌, ◌*◌, ◌^◌, ◌<◌, ◌≤◌, true, false, cond, ◌&&◌, ltb, leb, ◌⊎◌, List, [], ◌∷◌, ◌++◌, length, get_or, take, drop, decimal, sym, refl, ap, ◌∙◌, subst, inl, inr, ⊎_elim, append_assoc, arith, length-append, length-take, ltb-true, le-leb, leb-true}
use Rattle.std.proofs.lemmas.Bool.Decides.{nat_tests}
use Rattle.std.proofs.lemmas.Bool.{cases_eq, cases_Bool, and_from, and_parts}
use Rattle.std.proofs.lemmas.Fmt.{decimal_is_IsNumeral, decimal-digits_value, decimal_digit, first_decimal}
use Rattle.std.proofs.lemmas.Str.Parse.{numerals_by_value, tells_digits, digit_from_value}
use Rattle.std.proofs.lemmas.Str.{digit_value_digit}
use Rattle.std.specs.Str.Parse.{AllDigits, digits_value_after, digits_value}
use Rattle.std.specs.Char.{digit_value as digitValue}
use Rattle.reading.specs.Outcomes.{Outcome, Got, Stuck, past}
use Rattle.reading.specs.Written.{Short}
use Rattle.reading.specs.Grammar.{is_digit, may_grow, more_digits, number}
use Rattle.reading.proofs.Lawful.{Lawful, Read, Ends, got_same, stuck_same, stuck_got, got_stuck}
use Rattle.reading.proofs.Fields.{nothing_taken}

grows : (n : ℕ) (ds : List ℕ) → n ≤ digits_value_after 10 n ds
grows n [] = omega arith
grows n (c ∷ cs) = omega (arith, grows (n * 10 + digitValue c) cs)

digit_value : (x : ℕ) → 48 ≤ x → x ≤ 57 → x - 48 ≡ digitValue x
digit_value x a b = omega (arith, digit_value_digit x (a, b))

-- a number that ends with this byte
module _ (end : ℕ) (no_digit : end < 48) where
  data Next (n x : ℕ) : Type 0 where
    Closes : x ≡ end → Next n x
    Grows : (x ≡ end → ⊥) → 0 < n → n < 10000 → 48 ≤ x → x ≤ 57 → Next n x
    Bars : (x ≡ end → ⊥) → (may_grow n && is_digit x) ≡ false → Next n x

  digit_next : (n x : ℕ) → (x ≡ end → ⊥) → (may_grow n && is_digit x) ≡ true → Next n x
  digit_next n x apart e =
      let both = and_parts (may_grow n) (is_digit x) e in
      let g = and_parts (ltb 0 n) (ltb n 10000) both.0 in
      let d = and_parts (leb 48 x) (leb x 57) both.1 in
      Grows apart (ltb-true 0 n g.0) (ltb-true n 10000 g.1) (leb-true 48 x d.0) (leb-true x 57 d.1)

  next : (n x : ℕ) → Next n x
  next n x = ⊎_elim Closes (λ apart. ⊎_elim (digit_next n x apart) (Bars apart) (cases_Bool (may_grow n && is_digit x))) (cases_eq x end)

  at_end : (n x : ℕ) (xs : List ℕ) → x ≡ end → more_digits end n (x ∷ xs) ≡ Got n 1
  at_end n x xs e = grind (arith, nat_tests)

  at_digit : (n x : ℕ) (xs : List ℕ) → (x ≡ end → ⊥) → 0 < n → n < 10000 → 48 ≤ x → x ≤ 57 → more_digits end n (x ∷ xs) ≡ past 1 (more_digits end (n * 10 + (x - 48)) xs)
  at_digit n x xs apart a b c d = grind (arith, nat_tests)

  at_bar : (n x : ℕ) (xs : List ℕ) → (x ≡ end → ⊥) → (may_grow n && is_digit x) ≡ false → more_digits end n (x ∷ xs) ≡ Stuck 0
  at_bar n x xs apart e = grind (arith, nat_tests)

  more_reads : (ds : List ℕ) (n : ℕ) → AllDigits 10 ds → digits_value_after 10 n ds < 100000 → (0 < length ds → 0 < n) → (rest : List ℕ)
      → more_digits end n (ds ++ end ∷ rest) ≡ Got (digits_value_after 10 n ds) (length ds + 1)
  more_reads [] n digits short some rest = at_end n end rest refl
  more_reads (d ∷ ds) n digits short some rest =
      let k = digit_from_value d digits.0 in
      let same : n * 10 + (d - 48) ≡ n * 10 + digitValue d = ap (λ i. n * 10 + i) (digit_value d k.0 k.1) in
      let m : ℕ = n * 10 + digitValue d in
      let positive : 0 < n = some (omega arith) in
      let big : n < 10000 = omega (arith, grows m ds, short) in
      at_digit n d (ds ++ end ∷ rest) (λ e. omega (arith, k.0)) positive big k.0 k.1
      ∙ ap (λ i. past 1 (more_digits end i (ds ++ end ∷ rest))) same
      ∙ ap (past 1) (more_reads ds m digits.1 short (λ l. omega arith) rest)
      ∙ ap (Got (digits_value_after 10 m ds)) (omega arith)

  record MoreRead (n : ℕ) (bytes : List ℕ) (m k : ℕ) : Type 0 where
    ds : List ℕ
    digits : AllDigits 10 ds
    worth : m ≡ digits_value_after 10 n ds
    long : k ≡ length ds + 1
    whole : bytes ≡ ds ++ end ∷ drop k bytes
    some : 0 < length ds → 0 < n
    short : m < 100000

  grown : (n x : ℕ) (xs : List ℕ) → 0 < n → 48 ≤ x → x ≤ 57 → (m k : ℕ) → MoreRead (n * 10 + (x - 48)) xs m k → MoreRead n (x ∷ xs) m (suc k)
  grown n x xs some low high m k r =
      let d = digit_value x low high in
      record {
        ds = x ∷ r.ds;
        digits = (omega arith, r.digits);
        worth = r.worth ∙ ap (λ i. digits_value_after 10 (n * 10 + i) r.ds) d;
        long = omega (arith, r.long);
        whole = ap (λ l. x ∷ l) r.whole;
        some = λ _. some;
        short = r.short;
      }

  more_got : (bytes : List ℕ) (n : ℕ) → n < 100000 → (m k : ℕ) → more_digits end n bytes ≡ Got m k → MoreRead n bytes m k
  more_got [] n small m k h = absurd (stuck_got h)
  more_got (x ∷ xs) n small m k h = go (next n x) (more_got xs (n * 10 + (x - 48)))
    where
      after : ((m k : ℕ) → more_digits end (n * 10 + (x - 48)) xs ≡ Got m k → MoreRead (n * 10 + (x - 48)) xs m k) → 0 < n → 48 ≤ x → x ≤ 57
          → (o : Outcome ℕ) → more_digits end (n * 10 + (x - 48)) xs ≡ o → past 1 o ≡ Got m k → MoreRead n (x ∷ xs) m k
      after ih some low high (Stuck p) e g = absurd (stuck_got g)
      after ih some low high (Got m' k') e g =
          subst (λ i. MoreRead n (x ∷ xs) i k) (got_same g).0 (subst (MoreRead n (x ∷ xs) m') (omega (arith, (got_same g).1)) (grown n x xs some low high m' k' (ih m' k' e)))

      closed : x ≡ end → Got n 1 ≡ Got m k → MoreRead n (x ∷ xs) m k
      closed e g =
          let long : k ≡ 1 = sym (got_same g).1 in
          record {
            ds = [];
            digits = tt;
            worth = sym (got_same g).0;
            long = long;
            whole = ap (λ y. y ∷ xs) e ∙ ap (λ i. end ∷ drop i (x ∷ xs)) (sym long);
            some = λ l. absurd (omega arith);
            short = omega (arith, (got_same g).0);
          }

      go : Next n x → (n * 10 + (x - 48) < 100000 → (m k : ℕ) → more_digits end (n * 10 + (x - 48)) xs ≡ Got m k → MoreRead (n * 10 + (x - 48)) xs m k) → MoreRead n (x ∷ xs) m k
      go (Closes e) ih = closed e (sym (at_end n x xs e) ∙ h)
      go (Grows apart some big low high) ih =
          after (ih (omega arith)) some low high (more_digits end (n * 10 + (x - 48)) xs) refl (sym (at_digit n x xs apart some big low high) ∙ h)
      go (Bars apart e) ih = absurd (stuck_got (sym (at_bar n x xs apart e) ∙ h))

  record MoreEnds (n : ℕ) (bytes : List ℕ) (p : ℕ) : Type 0 where
    within : p ≤ length bytes
    digits : AllDigits 10 (take p bytes)
    some : 0 < p → 0 < n
    short : digits_value_after 10 n (take p bytes) < 100000
    stays : p < length bytes → (ys : List ℕ) → more_digits end n (take (p + 1) bytes ++ ys) ≡ Stuck p

  stopped : (n : ℕ) (bytes : List ℕ) (p : ℕ) → n < 100000 → p ≡ 0 → (0 < length bytes → (ys : List ℕ) → more_digits end n (take 1 bytes ++ ys) ≡ Stuck 0) → MoreEnds n bytes p
  stopped n bytes p small e stays =
      subst (MoreEnds n bytes) (sym e) (record {
        within = omega arith;
        digits = tt;
        some = λ l. absurd (omega arith);
        short = small;
        stays = stays;
      })

  further : (n x : ℕ) (xs : List ℕ) → (x ≡ end → ⊥) → 0 < n → n < 10000 → 48 ≤ x → x ≤ 57 → (p : ℕ) → MoreEnds (n * 10 + (x - 48)) xs p → MoreEnds n (x ∷ xs) (suc p)
  further n x xs apart some big low high p r =
      let d = digit_value x low high in
      record {
        within = omega (arith, r.within);
        digits = (omega arith, r.digits);
        some = λ _. some;
        short = subst (λ i. digits_value_after 10 (n * 10 + i) (take p xs) < 100000) d r.short;
        stays = λ l ys.
            ap (λ i. more_digits end n (take i (x ∷ xs) ++ ys)) (let e : suc p + 1 ≡ suc (p + 1) = omega arith in e)
            ∙ at_digit n x (take (p + 1) xs ++ ys) apart some big low high
            ∙ ap (past 1) (r.stays (omega arith) ys)
            ∙ ap Stuck (omega arith);
      }

  more_stuck : (bytes : List ℕ) (n : ℕ) → n < 100000 → (p : ℕ) → more_digits end n bytes ≡ Stuck p → MoreEnds n bytes p
  more_stuck [] n small p h = stopped n [] p small (sym (stuck_same h)) (λ l ys. absurd (omega arith))
  more_stuck (x ∷ xs) n small p h = go (next n x) (more_stuck xs (n * 10 + (x - 48)))
    where
      after : ((p : ℕ) → more_digits end (n * 10 + (x - 48)) xs ≡ Stuck p → MoreEnds (n * 10 + (x - 48)) xs p) → (x ≡ end → ⊥) → 0 < n → n < 10000 → 48 ≤ x → x ≤ 57
          → (o : Outcome ℕ) → more_digits end (n * 10 + (x - 48)) xs ≡ o → past 1 o ≡ Stuck p → MoreEnds n (x ∷ xs) p
      after ih apart some big low high (Got m k) e g = absurd (got_stuck g)
      after ih apart some big low high (Stuck q) e g = subst (MoreEnds n (x ∷ xs)) (omega (arith, stuck_same g)) (further n x xs apart some big low high q (ih q e))

      go : Next n x → (n * 10 + (x - 48) < 100000 → (p : ℕ) → more_digits end (n * 10 + (x - 48)) xs ≡ Stuck p → MoreEnds (n * 10 + (x - 48)) xs p) → MoreEnds n (x ∷ xs) p
      go (Closes e) ih = absurd (got_stuck (sym (at_end n x xs e) ∙ h))
      go (Grows apart some big low high) ih =
          after (ih (omega arith)) apart some big low high (more_digits end (n * 10 + (x - 48)) xs) refl (sym (at_digit n x xs apart some big low high) ∙ h)
      go (Bars apart e) ih = stopped n (x ∷ xs) p small (sym (stuck_same (sym (at_bar n x xs apart e) ∙ h))) (λ l ys. at_bar n x ys apart e)

  -- THE WHOLE NUMBER

  abbrev pub number_text : ℕ → List ℕ
  number_text n = decimal n ++ end ∷ []

  first_digit : (x : ℕ) (xs : List ℕ) → 48 ≤ x → x ≤ 57 → number end (x ∷ xs) ≡ past 1 (more_digits end (x - 48) xs)
  first_digit x xs low high = ap (λ t. cond t (past 1 (more_digits end (x - 48) xs)) (Stuck 0)) (and_from (leb 48 x) (leb x 57) (le-leb 48 x low) (le-leb x 57 high))

  first_bar : (x : ℕ) (xs : List ℕ) → is_digit x ≡ false → number end (x ∷ xs) ≡ Stuck 0
  first_bar x xs e = ap (λ t. cond t (past 1 (more_digits end (x - 48) xs)) (Stuck 0)) e

  -- digits with no leading zero are what is written of their worth
  spelled : (x : ℕ) (ds : List ℕ) → 48 ≤ x → x ≤ 57 → AllDigits 10 ds → (0 < length ds → 0 < x - 48) → digits_value_after 10 (x - 48) ds < 100000
      → decimal (digits_value_after 10 (x - 48) ds) ≡ x ∷ ds
  spelled x ds low high digits some short =
      let d = digit_value x low high in
      let start : x - 48 ≡ 0 * 10 + digitValue x = omega (arith, d) in
      let lead : x ≡ 48 → length (x ∷ ds) ≡ 1 = λ e. ⊎_elim (λ z. omega (arith, z)) (λ z. absurd (omega (arith, some (omega (arith, z))))) (cases_zero (length ds)) in
      ap (λ i. decimal (digits_value_after 10 i ds)) start
      ∙ decimal-digits_value (numerals_by_value (AllDigits 10) tells_digits) (x ∷ ds) (omega arith, digits) (omega arith) lead
      (subst (λ i. digits_value_after 10 i ds < 2 ^ 64) start (omega (arith, short)))
    where
      cases_zero : (n : ℕ) → (n ≡ 0) ⊎ (0 < n)
      cases_zero zero = inl refl
      cases_zero (suc n) = inr (omega arith)

  number_reads : (m : ℕ) → Short m → (rest : List ℕ) → number end (number_text m ++ rest) ≡ Got m (length (number_text m))
  number_reads m short rest = go (decimal m) refl
    where
      told : AllDigits 10 (decimal m)
      told = (decimal_is_IsNumeral m (omega (arith, short))).0.1

      some_digit : 0 < length (decimal m)
      some_digit = (decimal_is_IsNumeral m (omega (arith, short))).0.0

      worth : digits_value 10 (decimal m) ≡ m
      worth = (decimal_is_IsNumeral m (omega (arith, short))).1

      leads : (c : ℕ) (cs : List ℕ) → decimal m ≡ c ∷ cs → 0 < length cs → 48 < c
      leads c cs e l =
          ⊎_elim
          (λ z. absurd (omega (arith, l, ap length (sym e ∙ ap decimal z ∙ decimal_digit 0 (omega arith)))))
          (λ apart. subst (λ ds. 48 < get_or ds 0 0) e (first_decimal m (positive apart) (omega (arith, short))))
          (cases_eq m 0)
        where
          positive : (m ≡ 0 → ⊥) → 0 < m
          positive apart = omega (arith, apart)

      go : (ds : List ℕ) → decimal m ≡ ds → number end (number_text m ++ rest) ≡ Got m (length (number_text m))
      go [] e = absurd (omega (arith, some_digit, ap length e))
      go (c ∷ cs) e =
          let digits : AllDigits 10 (c ∷ cs) = subst (AllDigits 10) e told in
          let k = digit_from_value c digits.0 in
          let start : 0 * 10 + digitValue c ≡ c - 48 = omega (arith, digit_value c k.0 k.1) in
          let worth' : digits_value_after 10 (c - 48) cs ≡ m = ap (λ i. digits_value_after 10 i cs) (sym start) ∙ ap (digits_value 10) (sym e) ∙ worth in
          ap (λ ds. number end ((ds ++ end ∷ []) ++ rest)) e
          ∙ first_digit c ((cs ++ end ∷ []) ++ rest) k.0 k.1
          ∙ ap (λ l. past 1 (more_digits end (c - 48) l)) (append_assoc cs (end ∷ []) rest)
          ∙ ap (past 1) (more_reads cs (c - 48) digits.1 (omega (arith, worth', short)) (λ l. omega (arith, leads c cs e l)) rest)
          ∙ (λ i. Got (worth' i) (1 + (length cs + 1)))
          ∙ ap (Got m) (omega (arith, length-append cs (end ∷ []), ap (λ ds. length (ds ++ end ∷ [])) e))

  number_got : (bytes : List ℕ) (m k : ℕ) → number end bytes ≡ Got m k → Read number_text Short bytes m k
  number_got [] m k h = absurd (stuck_got h)
  number_got (x ∷ xs) m k h = go (cases_Bool (is_digit x))
    where
      found : 48 ≤ x → x ≤ 57 → (m k : ℕ) → MoreRead (x - 48) xs m k → Read number_text Short (x ∷ xs) m (suc k)
      found low high m k r =
          let text : decimal m ≡ x ∷ r.ds = ap decimal r.worth ∙ spelled x r.ds low high r.digits r.some (omega (arith, r.worth, r.short)) in
          record {
            fits = r.short;
            long = omega (arith, r.long, ap (λ ds. length (ds ++ end ∷ [])) text, length-append r.ds (end ∷ []));
            whole = ap (λ l. x ∷ l) (r.whole ∙ sym (append_assoc r.ds (end ∷ []) (drop k xs))) ∙ ap (λ ds. (ds ++ end ∷ []) ++ drop k xs) (sym text);
          }

      after : 48 ≤ x → x ≤ 57 → (o : Outcome ℕ) → more_digits end (x - 48) xs ≡ o → past 1 o ≡ Got m k → Read number_text Short (x ∷ xs) m k
      after low high (Stuck p) e g = absurd (stuck_got g)
      after low high (Got m' k') e g =
          subst (λ i. Read number_text Short (x ∷ xs) i k) (got_same g).0
          (subst (Read number_text Short (x ∷ xs) m') (omega (arith, (got_same g).1)) (found low high m' k' (more_got xs (x - 48) (omega arith) m' k' e)))

      go : (is_digit x ≡ true) ⊎ (is_digit x ≡ false) → Read number_text Short (x ∷ xs) m k
      go (inl t) =
          let d = and_parts (leb 48 x) (leb x 57) t in
          let low = leb-true 48 x d.0 in
          let high = leb-true x 57 d.1 in
          after low high (more_digits end (x - 48) xs) refl (sym (first_digit x xs low high) ∙ h)
      go (inr f) = absurd (stuck_got (sym (first_bar x xs f) ∙ h))

  number_stuck : (bytes : List ℕ) (p : ℕ) → number end bytes ≡ Stuck p → Ends (number end) number_text Short bytes p
  number_stuck [] p h = nothing_taken 0 (omega arith) [] p (sym (stuck_same h)) (λ l ys. absurd (omega arith))
  number_stuck (x ∷ xs) p h = go (cases_Bool (is_digit x))
    where
      found : 48 ≤ x → x ≤ 57 → (q : ℕ) → MoreEnds (x - 48) xs q → Ends (number end) number_text Short (x ∷ xs) (suc q)
      found low high q r =
          let m : ℕ = digits_value_after 10 (x - 48) (take q xs) in
          let some : 0 < length (take q xs) → 0 < x - 48 = λ l. r.some (omega (arith, l, length-take q xs)) in
          record {
            within = omega (arith, r.within);
            starts = record { value = m; fits = r.short; rest = end ∷ []; whole = ap (λ ds. ds ++ end ∷ []) (sym (spelled x (take q xs) low high r.digits some r.short)) };
            stays = λ l ys.
                ap (λ i. number end (take i (x ∷ xs) ++ ys)) (let e : suc q + 1 ≡ suc (q + 1) = omega arith in e)
                ∙ first_digit x (take (q + 1) xs ++ ys) low high
                ∙ ap (past 1) (r.stays (omega arith) ys)
                ∙ ap Stuck (omega arith);
          }

      after : 48 ≤ x → x ≤ 57 → (o : Outcome ℕ) → more_digits end (x - 48) xs ≡ o → past 1 o ≡ Stuck p → Ends (number end) number_text Short (x ∷ xs) p
      after low high (Got m k) e g = absurd (got_stuck g)
      after low high (Stuck q) e g = subst (Ends (number end) number_text Short (x ∷ xs)) (omega (arith, stuck_same g)) (found low high q (more_stuck xs (x - 48) (omega arith) q e))

      go : (is_digit x ≡ true) ⊎ (is_digit x ≡ false) → Ends (number end) number_text Short (x ∷ xs) p
      go (inl t) =
          let d = and_parts (leb 48 x) (leb x 57) t in
          let low = leb-true 48 x d.0 in
          let high = leb-true x 57 d.1 in
          after low high (more_digits end (x - 48) xs) refl (sym (first_digit x xs low high) ∙ h)
      go (inr f) = nothing_taken 0 (omega arith) (x ∷ xs) p (sym (stuck_same (sym (first_bar x xs f) ∙ h))) (λ l ys. first_bar x ys f)

  pub number_lawful : Lawful number_text Short (number end)
  number_lawful = record { reads = number_reads; got = number_got; stuck = number_stuck }
