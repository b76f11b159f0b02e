-- A heading is read exactly where it is what is written of a good one.
use Rattle.std.proofs.Common.{◌≡◌, ℕ, Bool, true, false, cond, eqb, List, [], ◌∷◌, ◌++◌, length, drop, Some, None, decimal, Option, sym, refl, ap, ◌∙◌, append_assoc, append-nil, arith, eqb-true}
use lib.Seq.{drop-length}
use borrow.Author.Tests.{eqb-false, both_ways}
use Rattle.std.proofs.lemmas.Bool.Decides.{nat_tests}
use Rattle.reading.specs.Grammar.{exactly}
use Rattle.reading.specs.Headings.{heading_letter, GoodHeading, written_heading, is_good, whole_heading, heading, HeadingAs, HeadingLaw}
use Rattle.reading.specs.Outcomes.{Outcome, Got, Stuck, mapped, both}
use Rattle.reading.specs.Readers.{two_numbers}
use Rattle.reading.specs.Written.{space, line_feed, Short}
use Rattle.reading.specs.declared.headings.Heading.{Heading}
use Rattle.reading.proofs.Fields.{exactly_lawful}
use Rattle.reading.proofs.Figures.{number_lawful}
use Rattle.reading.proofs.Lawful.{Lawful, both_lawful, got_same, stuck_got}

abbrev Values : Type 0
Values = Unit {0} × (Unit {0} × (ℕ × ℕ))

abbrev text : Values → List ℕ
text v = (heading_letter ∷ []) ++ ((space ∷ []) ++ ((decimal v.1.1.0 ++ space ∷ []) ++ (decimal v.1.1.1 ++ line_feed ∷ [])))

abbrev Fit : Values → Type 0
Fit v = Unit {0} × (Unit {0} × (Short v.1.1.0 × Short v.1.1.1))

abbrev read : List ℕ → Outcome Values
read = both (exactly heading_letter) (both (exactly space) two_numbers)

lawful_read : Lawful text Fit read
lawful_read =
    both_lawful (exactly_lawful heading_letter)
    (both_lawful (exactly_lawful space) (both_lawful (number_lawful space (omega arith)) (number_lawful line_feed (omega arith)) 0 (omega arith)) (0, 0) (omega arith, omega arith))
    (tt, (0, 0)) (tt, (omega arith, omega arith))

abbrev of : Values → Heading
of v = record { sections = v.1.1.0; interlocked = v.1.1.1 }

written_is : (h : Heading) → written_heading h ≡ text (tt, (tt, (h.sections, h.interlocked)))
unfolding written_heading
written_is h = ap (λ l. heading_letter ∷ space ∷ l) (sym (append_assoc (decimal h.sections) (space ∷ []) (decimal h.interlocked ++ line_feed ∷ [])))

good : (h : Heading) → is_good h ≡ true → GoodHeading h
good h e = record { some = grind (arith, nat_tests); few = grind (arith, nat_tests); within = grind (arith, nat_tests) }

good_back : (h : Heading) → GoodHeading h → is_good h ≡ true
good_back h g = grind (arith, nat_tests)

abbrev values : Heading → Values
values h = (tt, (tt, (h.sections, h.interlocked)))

reads_written : (h : Heading) → GoodHeading h → read (written_heading h) ≡ Got (values h) (length (written_heading h))
reads_written h g =
    let few = g.few in
    let within = g.within in
    let w = written_is h in
    ap read (w ∙ sym (append-nil (text (values h)))) ∙ lawful_read.reads (values h) (tt, (tt, (omega arith, omega arith))) [] ∙ ap (λ l. Got (values h) (length l)) (sym w)

-- a line that is written of a good heading is read as that heading, and to its end
reads_so : (line : List ℕ) (v : Values) (n : ℕ) → read line ≡ Got v n → (h : Heading) → GoodHeading h → line ≡ written_heading h → (v ≡ values h) × (n ≡ length line)
reads_so line v n e h g is =
    let same = got_same (sym e ∙ ap read is ∙ reads_written h g) in
    (same.0, same.1 ∙ ap length (sym is))

abbrev found : Bool → Bool → Heading → Option Heading
found ended fine h = cond ended (cond fine (Some h) None) None

by_tests : (line : List ℕ) (v : Values) (n : ℕ) → read line ≡ Got v n → (ended fine : Bool) → eqb n (length line) ≡ ended → is_good (of v) ≡ fine → HeadingAs line (found ended fine (of v))
by_tests line v n e true true there fine =
    let r = lawful_read.got line v n e in
    let whole : line ≡ text v = r.whole ∙ ap (λ i. text v ++ drop i line) (eqb-true n (length line) there) ∙ ap (λ l. text v ++ l) (drop-length line) ∙ append-nil (text v) in
    (good (of v) fine, whole ∙ sym (written_is (of v)))
by_tests line v n e true false there fine = λ h g is.
    both_ways (is_good (of v)) fine (ap (λ w. is_good (of w)) (reads_so line v n e h g is).0 ∙ good_back h g)
by_tests line v n e false fine there is-fine = λ h g is. eqb-false n (length line) there (reads_so line v n e h g is).1

by_outcome : (line : List ℕ) (o : Outcome Values) → read line ≡ o → HeadingAs line (whole_heading (mapped (λ v. v.1.1) o) (length line))
by_outcome line (Got v n) e = by_tests line v n e (eqb n (length line)) (is_good (of v)) refl refl
by_outcome line (Stuck p) e = λ h g is. stuck_got (sym e ∙ ap read is ∙ reads_written h g)

lawful : (line : List ℕ) → HeadingAs line (heading line)
unfolding heading
lawful line = by_outcome line (read line) refl

written_same : (h k : Heading) → GoodHeading h → GoodHeading k → written_heading h ≡ written_heading k → h ≡ k
written_same h k g f e =
    let same = (got_same (sym (reads_written h g) ∙ ap read e ∙ reads_written k f)).0 in
    ap of same

back : (h : Heading) → GoodHeading h → (o : Option Heading) → HeadingAs (written_heading h) o → o ≡ Some h
back h g (Some k) l = ap Some (sym (written_same h k g l.0 l.1))
back h g None l = absurd (l h g refl)

pub heading_law : HeadingLaw
heading_law = record { lawful = lawful; read_back = λ h g. back h g (heading (written_heading h)) (lawful (written_heading h)) }
