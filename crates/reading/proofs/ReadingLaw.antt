-- The law of reading.
use Rattle.std.proofs.Common.{◌≡◌, ℕ, ◌+◌, ◌<◌, ◌≤◌, cond, List, [], ◌++◌, length, take, drop, Ok, Err, Result, sym, refl, ap, ◌∙◌, subst, ⊎_elim, append_assoc, append-nil, arith, length-append, take-append-drop, length-take, take-take, eq-eqb, ne_eqb}
use lib.Seq.{drop-length, take-append_seam, take-append-add}
use Rattle.std.proofs.lemmas.Bool.{cases_eq}
use Rattle.rules.specs.declared.calls.Call.{Call}
use Rattle.reading.specs.Outcomes.{Outcome, Got, Stuck}
use Rattle.reading.specs.Written.{written, Writable}
use Rattle.reading.specs.Grammar.{call_line, finished, reading}
use Rattle.reading.specs.Law.{Begins, Unreadable, ReadAs, ReadingLaw}
use Rattle.reading.proofs.Lawful.{Read, got_same, got_stuck}
use Rattle.reading.proofs.CallLines.{call_reads, call_got, call_stuck}

-- what is written of a call is read as that call, and as no other
reads_written : (c : Call) → Writable c → call_line (written c) ≡ Got c (length (written c))
reads_written c w = ap call_line (sym (append-nil (written c))) ∙ call_reads c w []

-- A CALL, AND THEN MORE BYTES

more_than_a_line : (line : List ℕ) (c : Call) (n : ℕ) → Read written Writable line c n → call_line line ≡ Got c n → (n ≡ length line → ⊥) → Unreadable line n
more_than_a_line line c n r e apart =
    let front : take n line ≡ written c = ap (λ l. take n l) r.whole ∙ ap (λ i. take i (written c ++ drop n line)) r.long ∙ take-append_seam (written c) (drop n line) in
    let next : take (n + 1) line ≡ written c ++ take 1 (drop n line) = ap (λ l. take (n + 1) l) r.whole ∙ ap (λ i. take (i + 1) (written c ++ drop n line)) r.long ∙ take-append-add (written c) (drop n line) 1 in
    record {
      within = omega (arith, ap length r.whole, length-append (written c) (drop n line), r.long);
      begins = record { call = c; writable = r.fits; rest = []; whole = append-nil (take n line) ∙ front };
      stops = λ l b.
          let whole : written c ++ (take 1 (drop n line) ++ b.rest) ≡ written b.call = sym (append_assoc (written c) (take 1 (drop n line)) b.rest) ∙ ap (λ k. k ++ b.rest) (sym next) ∙ b.whole in
          let same = got_same (sym (call_reads c r.fits (take 1 (drop n line) ++ b.rest)) ∙ ap call_line whole ∙ reads_written b.call b.writable) in
          omega (arith, same.1, r.long, ap length b.whole, length-append (take (n + 1) line) b.rest, length-take (n + 1) line, l);
      not_good = λ d w is. apart ((got_same (sym e ∙ ap call_line is ∙ reads_written d w)).1 ∙ ap length (sym is));
    }

-- A BYTE THAT IS NOT GOOD

not_a_line : (line : List ℕ) (p : ℕ) → call_line line ≡ Stuck p → Unreadable line p
not_a_line line p e =
    let r = call_stuck line p e in
    record {
      within = r.within;
      begins = record { call = r.starts.value; writable = r.starts.fits; rest = r.starts.rest; whole = r.starts.whole };
      stops = λ l b. got_stuck (sym (reads_written b.call b.writable) ∙ ap call_line (sym b.whole) ∙ r.stays l b.rest);
      not_good = λ c w is. got_stuck (sym (reads_written c w) ∙ ap call_line (sym is) ∙ e);
    }

lawful_outcome : (line : List ℕ) (o : Outcome Call) → call_line line ≡ o → ReadAs line (finished o (length line))
lawful_outcome line (Stuck p) e = not_a_line line p e
lawful_outcome line (Got c n) e =
    let r = call_got line c n e in
    ⊎_elim
    (λ same. subst (ReadAs line) (sym (ap (λ t. cond t (Ok c) (Err n)) (eq-eqb n (length line) same)))
    (r.fits, r.whole ∙ ap (λ i. written c ++ drop i line) same ∙ ap (λ l. written c ++ l) (drop-length line) ∙ append-nil (written c)))
    (λ apart. subst (ReadAs line) (sym (ap (λ t. cond t (Ok c) (Err n)) (ne_eqb n (length line) apart))) (more_than_a_line line c n r e apart))
    (cases_eq n (length line))

lawful : (line : List ℕ) → ReadAs line (reading line)
unfolding reading
lawful line = lawful_outcome line (call_line line) refl

-- ONE READING

-- a front of a front is one
shorter : (line : List ℕ) (p q : ℕ) → p ≤ q → Begins (take q line) → Begins (take p line)
shorter line p q le b =
    record {
      call = b.call;
      writable = b.writable;
      rest = drop p (take q line) ++ b.rest;
      whole = ap (λ l. l ++ (drop p (take q line) ++ b.rest)) (sym (take-take p q line le))
          ∙ sym (append_assoc (take p (take q line)) (drop p (take q line)) b.rest)
          ∙ ap (λ l. l ++ b.rest) (take-append-drop p (take q line))
          ∙ b.whole;
    }

not_before : (line : List ℕ) (p q : ℕ) → Unreadable line p → Unreadable line q → p < q → ⊥
not_before line p q a b l = a.stops (omega (arith, b.within)) (shorter line (p + 1) q (omega arith) b.begins)

one_place : (line : List ℕ) (p q : ℕ) → Unreadable line p → Unreadable line q → p ≡ q
one_place line p q a b = omega (arith, not_before line p q a b, not_before line q p b a)

one_result : (line : List ℕ) (r s : Result Call ℕ) → ReadAs line r → ReadAs line s → r ≡ s
one_result line (Ok c) (Ok d) a b = ap Ok (got_same (sym (reads_written c a.0) ∙ ap call_line (sym a.1 ∙ b.1) ∙ reads_written d b.0)).0
one_result line (Ok c) (Err q) a b = absurd (b.not_good c a.0 a.1)
one_result line (Err p) (Ok d) a b = absurd (a.not_good d b.0 b.1)
one_result line (Err p) (Err q) a b = ap Err (one_place line p q a b)

pub reading_law : ReadingLaw
reading_law = record {
  lawful = lawful;
  one_reading = λ line r h. one_result line r (reading line) h (lawful line);
  read_back = λ c w. one_result (written c) (reading (written c)) (Ok c) (lawful (written c)) (w, refl);
}
