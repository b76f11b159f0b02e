-- The reading of a whole line agrees with what is written of calls.
use Rattle.std.proofs.Common.{◌≡◌, ℕ, suc, ◌+◌, ◌<◌, cond, List, [], ◌∷◌, ◌++◌, length, take, drop, Some, None, decimal, Option, sym, refl, ap, ◌∙◌, subst, ⊎_elim, append_assoc, arith, eq-eqb, ne_eqb}
use Rattle.std.proofs.lemmas.Bool.{cases_eq}
use Rattle.std.proofs.lemmas.Grind.{common_steps}
use Rattle.block.specs.declared.order.Direction.{Direction}
use Rattle.block.specs.declared.order.Direction.TheVariants.{Up}
use Rattle.rules.specs.declared.calls.Call.{Call}
use Rattle.rules.specs.declared.calls.Call.TheVariants.{PlaceTrain, WithdrawTrain, GiveRelease, OpenSignal, CloseSignal, EnterSection, ReturnRelease, OpenHome, ShutHome, ReachPedal, LeaveSection, ClearSection, UnsealSection, RestoreSection}
use Rattle.reading.specs.Outcomes.{Outcome, Got, Stuck, past, mapped, continued, both}
use Rattle.reading.specs.Written.{space, line_feed, Short, direction_letter, letter, One, Two, Sided, fields, fields_text, Fit, written, Writable}
use Rattle.reading.specs.Grammar.{exactly, number, direction, Form, OfOne, OfTwo, OfSided, forms, form_in, form_fields, form_line, call_line}
use Rattle.reading.proofs.Lawful.{Lawful, Read, Ends, got_same, stuck_same, stuck_got, got_stuck, both_lawful}
use Rattle.reading.proofs.Fields.{nothing_taken, exactly_lawful, direction_lawful}
use Rattle.reading.proofs.Figures.{number_lawful}

-- what is read after the letter
abbrev Values : Form → Type 0
Values (OfOne f) = ℕ
Values (OfTwo f) = ℕ × ℕ
Values (OfSided f) = ℕ × (Direction × Unit {0})

abbrev build : (f : Form) → Values f → Call
build (OfOne f) m = f m
build (OfTwo f) v = f v.0 v.1
build (OfSided f) v = f v.0 v.1.0

abbrev values_text : (f : Form) → Values f → List ℕ
values_text (OfOne f) m = decimal m ++ line_feed ∷ []
values_text (OfTwo f) v = (decimal v.0 ++ space ∷ []) ++ (decimal v.1 ++ line_feed ∷ [])
values_text (OfSided f) v = (decimal v.0 ++ space ∷ []) ++ ((direction_letter v.1.0 ∷ []) ++ (line_feed ∷ []))

abbrev ValuesFit : (f : Form) → Values f → Type 0
ValuesFit (OfOne f) m = Short m
ValuesFit (OfTwo f) v = Short v.0 × Short v.1
ValuesFit (OfSided f) v = Short v.0 × (Unit {0} × Unit {0})

abbrev values_read : (f : Form) → List ℕ → Outcome (Values f)
values_read (OfOne f) = number line_feed
values_read (OfTwo f) = both (number space) (number line_feed)
values_read (OfSided f) = both (number space) (both direction (exactly line_feed))

abbrev some_values : (f : Form) → Values f
some_values (OfOne f) = 0
some_values (OfTwo f) = (0, 0)
some_values (OfSided f) = (0, (Up, tt))

some_fit : (f : Form) → ValuesFit f (some_values f)
some_fit (OfOne f) = omega arith
some_fit (OfTwo f) = (omega arith, omega arith)
some_fit (OfSided f) = (omega arith, (tt, tt))

values_lawful : (f : Form) → Lawful (values_text f) (ValuesFit f) (values_read f)
values_lawful (OfOne f) = number_lawful line_feed (omega arith)
values_lawful (OfTwo f) = both_lawful (number_lawful space (omega arith)) (number_lawful line_feed (omega arith)) 0 (omega arith)
values_lawful (OfSided f) = both_lawful (number_lawful space (omega arith)) (both_lawful direction_lawful (exactly_lawful line_feed) tt tt) (Up, tt) (tt, tt)

-- with the space before them
abbrev spaced : (f : Form) → List ℕ → Outcome (Unit {0} × Values f)
spaced f = both (exactly space) (values_read f)

abbrev spaced_text : (f : Form) → Unit {0} × Values f → List ℕ
spaced_text f v = (space ∷ []) ++ values_text f v.1

abbrev SpacedFit : (f : Form) → Unit {0} × Values f → Type 0
SpacedFit f v = Unit {0} × ValuesFit f v.1

spaced_lawful : (f : Form) → Lawful (spaced_text f) (SpacedFit f) (spaced f)
spaced_lawful f = both_lawful (exactly_lawful space) (values_lawful f) (some_values f) (some_fit f)

fields_built : (f : Form) (bytes : List ℕ) → form_fields f bytes ≡ mapped (build f) (values_read f bytes)
fields_built (OfOne f) bytes = refl
fields_built (OfTwo f) bytes = refl
fields_built (OfSided f) bytes = refl

line_built : (f : Form) (bytes : List ℕ) → form_line (Some f) bytes ≡ past 1 (mapped (λ v. build f v.1) (spaced f bytes))
line_built f bytes = ap (past 1) (go (exactly space bytes))
  where
    go : (o : Outcome (Unit {0})) → mapped (λ v. v.1) (continued o (form_fields f) bytes) ≡ mapped (λ v. build f v.1) (continued o (values_read f) bytes)
    go (Stuck p) = refl
    go (Got u n) = grind (arith, common_steps, fields_built f (drop n bytes))

-- THE LETTERS

-- what a letter stands for
pub record Entry (x : ℕ) (f : Form) : Type 0 where
  pub lettered : (v : Values f) → letter (build f v) ≡ x
  pub texts : (v : Values f) → fields_text (fields (build f v)) ≡ values_text f v
  pub fit : (v : Values f) → ValuesFit f v → Fit (fields (build f v))

entry_one : (x : ℕ) (f : ℕ → Call) → ((m : ℕ) → letter (f m) ≡ x) → ((m : ℕ) → fields (f m) ≡ One m) → Entry x (OfOne f)
entry_one x f l e = record { lettered = l; texts = λ m. ap fields_text (e m); fit = λ m h. subst Fit (sym (e m)) h }

entry_two : (x : ℕ) (f : ℕ → ℕ → Call) → ((m n : ℕ) → letter (f m n) ≡ x) → ((m n : ℕ) → fields (f m n) ≡ Two m n) → Entry x (OfTwo f)
entry_two x f l e =
    record {
      lettered = λ v. l v.0 v.1;
      texts = λ v. ap fields_text (e v.0 v.1) ∙ sym (append_assoc (decimal v.0) (space ∷ []) (decimal v.1 ++ line_feed ∷ []));
      fit = λ v h. subst Fit (sym (e v.0 v.1)) h;
    }

entry_sided : (x : ℕ) (f : ℕ → Direction → Call) → ((m : ℕ) (d : Direction) → letter (f m d) ≡ x) → ((m : ℕ) (d : Direction) → fields (f m d) ≡ Sided m d) → Entry x (OfSided f)
entry_sided x f l e =
    record {
      lettered = λ v. l v.0 v.1.0;
      texts = λ v. ap fields_text (e v.0 v.1.0) ∙ sym (append_assoc (decimal v.0) (space ∷ []) (direction_letter v.1.0 ∷ line_feed ∷ []));
      fit = λ v h. subst Fit (sym (e v.0 v.1.0)) h.0;
    }

abbrev Entries : List (ℕ × Form) → Type 0
Entries [] = Unit {0}
Entries (e ∷ es) = Entry e.0 e.1 × Entries es

entries : Entries forms
entries = (
  entry_two 78 PlaceTrain (λ _ _. refl) (λ _ _. refl),
  (
    entry_one 87 WithdrawTrain (λ _. refl) (λ _. refl),
    (
      entry_sided 71 GiveRelease (λ _ _. refl) (λ _ _. refl),
      (
        entry_sided 79 OpenSignal (λ _ _. refl) (λ _ _. refl),
        (
          entry_sided 70 CloseSignal (λ _ _. refl) (λ _ _. refl),
          (
            entry_two 69 EnterSection (λ _ _. refl) (λ _ _. refl),
            (
              entry_sided 82 ReturnRelease (λ _ _. refl) (λ _ _. refl),
              (
                entry_sided 72 OpenHome (λ _ _. refl) (λ _ _. refl),
                (
                  entry_sided 83 ShutHome (λ _ _. refl) (λ _ _. refl),
                  (
                    entry_two 84 ReachPedal (λ _ _. refl) (λ _ _. refl),
                    (
                      entry_two 76 LeaveSection (λ _ _. refl) (λ _ _. refl),
                      (
                        entry_sided 68 ClearSection (λ _ _. refl) (λ _ _. refl),
                        (
                          entry_sided 85 UnsealSection (λ _ _. refl) (λ _ _. refl),
                          (entry_sided 90 RestoreSection (λ _ _. refl) (λ _ _. refl), tt),
                        ),
                      ),
                    ),
                  ),
                ),
              ),
            ),
          ),
        ),
      ),
    ),
  ),
)

entry_in : (es : List (ℕ × Form)) → Entries es → (x : ℕ) (f : Form) → form_in es x ≡ Some f → Entry x f
entry_in [] all x f e = cc
entry_in (h ∷ es) all x f e =
    ⊎_elim
    (λ same.
    let found : h.1 ≡ f = let first = ap (λ t. cond t (Some h.1) (form_in es x)) (eq-eqb x h.0 same) in cc in
    subst (Entry x) found (subst (λ y. Entry y h.1) (sym same) all.0))
    (λ apart. entry_in es all.1 x f (sym (ap (λ t. cond t (Some h.1) (form_in es x)) (ne_eqb x h.0 apart)) ∙ e))
    (cases_eq x h.0)

-- the line of a call, by its entry
written_built : (x : ℕ) (f : Form) → Entry x f → (v : Values f) → written (build f v) ≡ x ∷ spaced_text f (tt, v)
unfolding written
written_built x f e v = (λ i. e.lettered v i ∷ space ∷ e.texts v i)

reads_built : (x : ℕ) (f : Form) → form_in forms x ≡ Some f → (v : Values f) → ValuesFit f v → (rest : List ℕ)
    → call_line ((x ∷ spaced_text f (tt, v)) ++ rest) ≡ Got (build f v) (length (x ∷ spaced_text f (tt, v)))
reads_built x f is v fit rest =
    ap (λ o. form_line o (spaced_text f (tt, v) ++ rest)) is
    ∙ line_built f (spaced_text f (tt, v) ++ rest)
    ∙ ap (λ o. past 1 (mapped (λ v. build f v.1) o)) ((spaced_lawful f).reads (tt, v) (tt, fit) rest)
    ∙ ap (Got (build f v)) (omega arith)

reads_entry : (x : ℕ) (f : Form) → form_in forms x ≡ Some f → (v : Values f) → ValuesFit f v → (rest : List ℕ)
    → call_line (written (build f v) ++ rest) ≡ Got (build f v) (length (written (build f v)))
reads_entry x f is v fit rest =
    let e = written_built x f (entry_in forms entries x f is) v in
    ap (λ l. call_line (l ++ rest)) e ∙ reads_built x f is v fit rest ∙ ap (λ l. Got (build f v) (length l)) (sym e)

pub call_reads : (c : Call) → Writable c → (rest : List ℕ) → call_line (written c ++ rest) ≡ Got c (length (written c))
call_reads (PlaceTrain n p) h rest = reads_entry 78 (OfTwo PlaceTrain) refl (n, p) h rest
call_reads (WithdrawTrain n) h rest = reads_entry 87 (OfOne WithdrawTrain) refl n h rest
call_reads (GiveRelease k d) h rest = reads_entry 71 (OfSided GiveRelease) refl (k, (d, tt)) (h, (tt, tt)) rest
call_reads (OpenSignal k d) h rest = reads_entry 79 (OfSided OpenSignal) refl (k, (d, tt)) (h, (tt, tt)) rest
call_reads (CloseSignal k d) h rest = reads_entry 70 (OfSided CloseSignal) refl (k, (d, tt)) (h, (tt, tt)) rest
call_reads (EnterSection n k) h rest = reads_entry 69 (OfTwo EnterSection) refl (n, k) h rest
call_reads (ReturnRelease k d) h rest = reads_entry 82 (OfSided ReturnRelease) refl (k, (d, tt)) (h, (tt, tt)) rest
call_reads (OpenHome k d) h rest = reads_entry 72 (OfSided OpenHome) refl (k, (d, tt)) (h, (tt, tt)) rest
call_reads (ShutHome k d) h rest = reads_entry 83 (OfSided ShutHome) refl (k, (d, tt)) (h, (tt, tt)) rest
call_reads (ReachPedal n k) h rest = reads_entry 84 (OfTwo ReachPedal) refl (n, k) h rest
call_reads (LeaveSection n k) h rest = reads_entry 76 (OfTwo LeaveSection) refl (n, k) h rest
call_reads (ClearSection k d) h rest = reads_entry 68 (OfSided ClearSection) refl (k, (d, tt)) (h, (tt, tt)) rest
call_reads (UnsealSection k d) h rest = reads_entry 85 (OfSided UnsealSection) refl (k, (d, tt)) (h, (tt, tt)) rest
call_reads (RestoreSection k d) h rest = reads_entry 90 (OfSided RestoreSection) refl (k, (d, tt)) (h, (tt, tt)) rest

-- A LINE THAT IS READ

call_got_built : (x : ℕ) (xs : List ℕ) (f : Form) → Entry x f → (c : Call) (n : ℕ) (o : Outcome (Unit {0} × Values f)) → spaced f xs ≡ o
    → past 1 (mapped (λ v. build f v.1) o) ≡ Got c n → Read written Writable (x ∷ xs) c n
call_got_built x xs f e c n (Stuck p) is h = absurd (stuck_got h)
call_got_built x xs f e c n (Got v m) is h =
    let r = (spaced_lawful f).got xs v m is in
    let w = written_built x f e v.1 in
    let here : Read written Writable (x ∷ xs) (build f v.1) (suc m) = record {
      fits = e.fit v.1 r.fits.1;
      long = omega (arith, r.long, ap length w);
      whole = ap (λ l. x ∷ l) r.whole ∙ ap (λ l. l ++ drop m xs) (sym w);
    } in
    subst (λ d. Read written Writable (x ∷ xs) d n) (got_same h).0 (subst (Read written Writable (x ∷ xs) (build f v.1)) (omega (arith, (got_same h).1)) here)

call_got_form : (x : ℕ) (xs : List ℕ) (o : Option Form) → form_in forms x ≡ o → (c : Call) (n : ℕ) → form_line o xs ≡ Got c n → Read written Writable (x ∷ xs) c n
call_got_form x xs None is c n h = absurd (stuck_got h)
call_got_form x xs (Some f) is c n h = call_got_built x xs f (entry_in forms entries x f is) c n (spaced f xs) refl (sym (line_built f xs) ∙ h)

pub call_got : (bytes : List ℕ) (c : Call) (n : ℕ) → call_line bytes ≡ Got c n → Read written Writable bytes c n
call_got [] c n h = absurd (stuck_got h)
call_got (x ∷ xs) c n h = call_got_form x xs (form_in forms x) refl c n h

-- A LINE THAT IS NOT

abbrev CallEnds : List ℕ → ℕ → Type 0
CallEnds bytes p = Ends call_line written Writable bytes p

at_once : (bytes : List ℕ) (p : ℕ) → p ≡ 0 → (0 < length bytes → (ys : List ℕ) → call_line (take 1 bytes ++ ys) ≡ Stuck 0) → CallEnds bytes p
at_once bytes p e stays = nothing_taken (WithdrawTrain 0) (omega arith) bytes p e stays

call_stuck_built : (x : ℕ) (xs : List ℕ) (f : Form) → form_in forms x ≡ Some f → (p : ℕ) (o : Outcome (Unit {0} × Values f)) → spaced f xs ≡ o
    → past 1 (mapped (λ v. build f v.1) o) ≡ Stuck p → CallEnds (x ∷ xs) p
call_stuck_built x xs f is p (Got v m) e h = absurd (got_stuck h)
call_stuck_built x xs f is p (Stuck q) e h =
    let r = (spaced_lawful f).stuck xs q e in
    let entry = entry_in forms entries x f is in
    let v = r.starts.value.1 in
    let here : CallEnds (x ∷ xs) (suc q) = record {
      within = omega (arith, r.within);
      starts = record {
        value = build f v;
        fits = entry.fit v r.starts.fits.1;
        rest = r.starts.rest;
        whole = ap (λ l. x ∷ l) r.starts.whole ∙ sym (written_built x f entry v);
      };
      stays = λ l ys.
          ap (λ i. call_line (take i (x ∷ xs) ++ ys)) (let z : suc q + 1 ≡ suc (q + 1) = omega arith in z)
          ∙ ap (λ o. form_line o (take (q + 1) xs ++ ys)) is
          ∙ line_built f (take (q + 1) xs ++ ys)
          ∙ ap (λ o. past 1 (mapped (λ v. build f v.1) o)) (r.stays (omega arith) ys)
          ∙ ap Stuck (omega arith);
    } in
    subst (CallEnds (x ∷ xs)) (omega (arith, stuck_same h)) here

call_stuck_form : (x : ℕ) (xs : List ℕ) (o : Option Form) → form_in forms x ≡ o → (p : ℕ) → form_line o xs ≡ Stuck p → CallEnds (x ∷ xs) p
call_stuck_form x xs None is p h = at_once (x ∷ xs) p (sym (stuck_same h)) (λ l ys. ap (λ o. form_line o ys) is)
call_stuck_form x xs (Some f) is p h = call_stuck_built x xs f is p (spaced f xs) refl (sym (line_built f xs) ∙ h)

pub call_stuck : (bytes : List ℕ) (p : ℕ) → call_line bytes ≡ Stuck p → CallEnds bytes p
call_stuck [] p h = at_once [] p (sym (stuck_same h)) (λ l ys. absurd (omega arith))
call_stuck (x ∷ xs) p h = call_stuck_form x xs (form_in forms x) refl p h
