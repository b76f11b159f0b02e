-- How long an answer can be.
use Rattle.std.proofs.Common.{◌≡◌, ℕ, suc, ◌+◌, ◌*◌, ◌<◌, ◌≤◌, Bool, true, false, cond, List, [], ◌∷◌, ◌++◌, length, Some, None, Ok, Err, Option, Result, refl, ap, ◌∙◌, arith, length-append}
use Rattle.answers.proofs.Bounds.{heading_short}
use Rattle.answers.proofs.Refused.{Brief, nothing_brief, refused_brief, place_brief, ok_short, refused_short}
use Rattle.answers.specs.Numbers.{turn_values}
use Rattle.answers.specs.Texts.{heading_text, told_text}
use Rattle.reading.proofs.ReadingLaw.{reading_law}
use Rattle.reading.specs.Grammar.{reading}
use Rattle.reading.specs.Headings.{GoodHeading}
use Rattle.reading.specs.Law.{ReadAs}
use Rattle.reading.specs.Written.{Writable}
use Rattle.reading.specs.declared.headings.Heading.{Heading}
use Rattle.rules.specs.Checks.{refusal}
use Rattle.rules.specs.declared.calls.Call.{Call}
use Rattle.rules.specs.declared.refusals.LineRefusal.{LineRefusal}
use Rattle.std.specs.Option.{option_map}
use Rattle.answers.specs.declared.refusals.SheetLineRefusal.TheVariants.{Unreadable, Turn}
use Rattle.turn.specs.Rows.{unsealing}
use Rattle.turn.specs.Turn.{TurnState, full, no_seal_row, turn_refusal, answer_of, step, run, unless, worked}
use Rattle.turn.specs.declared.refusals.TurnRefusal.{TurnRefusal}
use Rattle.turn.specs.declared.refusals.TurnRefusal.TheVariants.{RegisterFull, SealBookFull, Line}
use Rattle.sheet.specs.Played.{readable, from_turn, told, after, numbered, line_answers}
use Rattle.sheet.specs.Sheets.{first_turn, end_text, played_text, least_room}

-- ONE LINE

-- a refusal of the line is the line's own
line_refused : (t : TurnState) (c : Call) (e : LineRefusal) → turn_refusal t c ≡ Some (Line e) → refusal t.line c ≡ Some e
unfolding turn_refusal
line_refused t c e h = by (full t.register) (no_seal_row (unsealing c) t.seals) (refusal t.line c) h
  where
    by : (a b : Bool) (o : Option LineRefusal) → cond a (Some RegisterFull) (cond b (Some SealBookFull) (option_map Line o)) ≡ Some (Line e) → o ≡ Some e
    by true b o h = absurd (let z : ◌≡◌ {A = ℕ} 0 1 = cc in omega arith)
    by false true o h = absurd (let z : ◌≡◌ {A = ℕ} 0 1 = cc in omega arith)
    by false false None h = absurd (let z : ◌≡◌ {A = ℕ} 0 1 = cc in omega arith)
    by false false (Some r) h = let same : r ≡ e = cc in ap Some same

turn_brief : (t : TurnState) (c : Call) → Writable c → (e : TurnRefusal) → turn_refusal t c ≡ Some e → Brief (turn_values e)
turn_brief t c w RegisterFull h = nothing_brief
turn_brief t c w SealBookFull h = nothing_brief
turn_brief t c w (Line e) h = refused_brief t.line c w e (line_refused t c e h)

call_short : (n : ℕ) → n < 10000 → (t : TurnState) (c : Call) → Writable c → (o : Option TurnRefusal) → turn_refusal t c ≡ o
    → length (told_text n (numbered n (from_turn (answer_of o)))) ≤ 20
call_short n few t c w None h = ok_short n few
call_short n few t c w (Some e) h = refused_short n (record { line = n; refusal = Turn e }) few (turn_brief t c w e h)

line_short : (n : ℕ) → n < 10000 → (t : TurnState) (l : List ℕ) (r : Result Call ℕ) → ReadAs l r → length (told_text n (numbered n (told t r))) ≤ 20
line_short n few t l (Ok c) a = call_short n few t c a.0 (turn_refusal t c) refl
line_short n few t l (Err place) a = refused_short n (record { line = n; refusal = Unreadable place }) few (place_brief l place a)

pub answers_short : (n : ℕ) (t : TurnState) (ls : List (List ℕ)) → n + length ls < 10000 → length (line_answers n t ls) ≤ 20 * length ls
answers_short n t [] few = omega arith
answers_short n t (l ∷ ls) few =
    let text = told_text n (numbered n (told t (reading l))) in
    omega (
      arith,
      length-append text (line_answers (suc n) (after t (reading l)) ls),
      line_short n (omega arith) t l (reading l) (reading_law.lawful l),
      answers_short (suc n) (after t (reading l)) ls (omega arith),
    )

-- THE WHOLE ANSWER

-- the books keep their room
step_room : (t : TurnState) (c : Call) → (step t c).register.room ≡ t.register.room
unfolding step
step_room t c = by (turn_refusal t c)
  where
    by : (o : Option TurnRefusal) → (unless o t (worked t c)).register.room ≡ t.register.room
    by None = refl
    by (Some e) = refl

pub run_room : (t : TurnState) (cs : List Call) → (run t cs).register.room ≡ t.register.room
run_room t [] = refl
run_room t (c ∷ cs) = run_room (step t c) cs ∙ step_room t c

pub played_short : (h : Heading) → GoodHeading h → (ls : List (List ℕ)) → length ls < 9000 → length (end_text (run (first_turn h) (readable ls))) ≤ 528
    → length (played_text h ls) ≤ least_room (length ls)
unfolding played_text
played_short h g ls few end =
    let answers = line_answers 2 (first_turn h) ls in
    omega (
      arith,
      heading_short h g.few g.within,
      answers_short 2 (first_turn h) ls (omega arith),
      end,
      length-append (heading_text h) answers,
      length-append (heading_text h ++ answers) (end_text (run (first_turn h) (readable ls))),
    )

pub whole_text : (h : Heading) (ls : List (List ℕ)) → (heading_text h ++ line_answers 2 (first_turn h) ls) ++ end_text (run (first_turn h) (readable ls)) ≡ played_text h ls
unfolding played_text
whole_text h ls = refl
