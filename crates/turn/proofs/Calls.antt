-- One call of a turn, from its parts: the books' room, the line, the rows.
use Rattle.std.proofs.Common.{◌≡◌, ℕ, Bool, true, false, cond, is_some, Some, None, Ok, Err, Option, [], ◌∷◌, length, sym, refl, ap, ◌∙◌}
use Rattle.std.specs.Option.{option_map}
use Rattle.rules.specs.Checks.{refusal}
use Rattle.rules.specs.Effects.{effect}
use Rattle.rules.specs.State.{LineState}
use Rattle.line.specs.Lines.{answered}
use Rattle.rules.specs.Slips.{slip_of}
use Rattle.rules.specs.declared.calls.Call.{Call}
use Rattle.rules.specs.declared.calls.Call.TheVariants.{PlaceTrain, WithdrawTrain, GiveRelease, OpenSignal, CloseSignal, EnterSection, ReturnRelease, OpenHome, ShutHome, ReachPedal, LeaveSection, ClearSection, UnsealSection, RestoreSection}
use Rattle.rules.specs.declared.refusals.LineRefusal.{LineRefusal}
use Rattle.rules.specs.declared.slips.SealRow.{SealRow}
use Rattle.rules.specs.declared.slips.Slip.{Slip}
use Rattle.turn.specs.Rows.{row_of, unsealing, seals_of}
use Rattle.turn.specs.Turn.{Book, full, added, TurnState, no_seal_row, turn_refusal, worked}
use Rattle.turn.specs.Turns.{admission, slip_rows}
use Rattle.turn.specs.declared.refusals.TurnRefusal.{TurnRefusal}
use Rattle.turn.specs.declared.refusals.TurnRefusal.TheVariants.{RegisterFull, SealBookFull, Line}
use Rattle.turn.specs.declared.rows.RegisterRow.{RegisterRow}
use Rattle.turn.proofs.Tests.{none_some, true_false}

pub line_err : (o : Option LineRefusal) (slip : Option Slip) (e : LineRefusal) → answered o slip ≡ Err e → o ≡ Some e
line_err None slip e h = absurd (none_some {x = e} (cc))
line_err (Some r) slip e h = let same : r ≡ e = cc in ap Some same

pub line_ok : (o : Option LineRefusal) (slip x : Option Slip) → answered o slip ≡ Ok x → (o ≡ None) × (x ≡ slip)
line_ok None slip x h = (refl, cc)
line_ok (Some r) slip x h = absurd (none_some {x = r} (cc))

module _ (t : TurnState) (c : Call) where
  pub not_admitted : (e : TurnRefusal) → admission t.register t.seals c ≡ Some e → turn_refusal t c ≡ Some e
  unfolding turn_refusal
  not_admitted e = by (full t.register) (no_seal_row (unsealing c) t.seals)
    where
      by : (a b : Bool) → cond a (Some RegisterFull) (cond b (Some SealBookFull) None) ≡ Some e → cond a (Some RegisterFull) (cond b (Some SealBookFull) (option_map Line (refusal t.line c))) ≡ Some e
      by true b h = h
      by false true h = h
      by false false h = absurd (none_some h)

  pub left_to_line : admission t.register t.seals c ≡ None → turn_refusal t c ≡ option_map Line (refusal t.line c)
  unfolding turn_refusal
  left_to_line = by (full t.register) (no_seal_row (unsealing c) t.seals)
    where
      by : (a b : Bool) → cond a (Some RegisterFull) (cond b (Some SealBookFull) None) ≡ None → cond a (Some RegisterFull) (cond b (Some SealBookFull) (option_map Line (refusal t.line c))) ≡ option_map Line (refusal t.line c)
      by true b h = absurd (none_some (sym h))
      by false true h = absurd (none_some (sym h))
      by false false h = refl

-- admitted: the books have room
pub has_room : (register : Book RegisterRow) (seals : Book SealRow) (c : Call) → admission register seals c ≡ None → (full register ≡ false) × (no_seal_row (unsealing c) seals ≡ false)
has_room register seals c = by (full register) (no_seal_row (unsealing c) seals)
  where
    by : (a b : Bool) → cond a (Some RegisterFull) (cond b (Some SealBookFull) None) ≡ None → (a ≡ false) × (b ≡ false)
    by true b h = absurd (none_some (sym h))
    by false true h = absurd (none_some (sym h))
    by false false h = (refl, refl)

-- a slip is handed out for an unsealing, and for no other call
pub slip_room : (seals : Book SealRow) (c : Call) → no_seal_row (unsealing c) seals ≡ false → is_some (slip_of c) ≡ true → full seals ≡ false
slip_room seals (PlaceTrain n p) h s = absurd (true_false (sym s))
slip_room seals (WithdrawTrain n) h s = absurd (true_false (sym s))
slip_room seals (GiveRelease k d) h s = absurd (true_false (sym s))
slip_room seals (OpenSignal k d) h s = absurd (true_false (sym s))
slip_room seals (CloseSignal k d) h s = absurd (true_false (sym s))
slip_room seals (EnterSection n k) h s = absurd (true_false (sym s))
slip_room seals (ReturnRelease k d) h s = absurd (true_false (sym s))
slip_room seals (OpenHome k d) h s = absurd (true_false (sym s))
slip_room seals (ShutHome k d) h s = absurd (true_false (sym s))
slip_room seals (ReachPedal n k) h s = absurd (true_false (sym s))
slip_room seals (LeaveSection n k) h s = absurd (true_false (sym s))
slip_room seals (ClearSection k d) h s = absurd (true_false (sym s))
slip_room seals (UnsealSection k d) h s = h
slip_room seals (RestoreSection k d) h s = absurd (true_false (sym s))

pub slip_row : (c : Call) (m : ℕ) → slip_rows (slip_of c) m ≡ seals_of (unsealing c) m
slip_row (PlaceTrain n p) m = refl
slip_row (WithdrawTrain n) m = refl
slip_row (GiveRelease k d) m = refl
slip_row (OpenSignal k d) m = refl
slip_row (CloseSignal k d) m = refl
slip_row (EnterSection n k) m = refl
slip_row (ReturnRelease k d) m = refl
slip_row (OpenHome k d) m = refl
slip_row (ShutHome k d) m = refl
slip_row (ReachPedal n k) m = refl
slip_row (LeaveSection n k) m = refl
slip_row (ClearSection k d) m = refl
slip_row (UnsealSection k d) m = refl
slip_row (RestoreSection k d) m = refl

-- a turn whose line is that after an accepted call, and whose books have its row and its slip
pub noted_worked : (t : TurnState) (c : Call) (l : LineState) (register : Book RegisterRow) (seals : Book SealRow) (row : RegisterRow) (slip : Option Slip)
    → l ≡ effect t.line c → row ≡ row_of t.line c → slip ≡ slip_of c → register ≡ added (row ∷ []) t.register
    → seals ≡ added (slip_rows slip (length t.register.rows)) t.seals → record { line = l; register = register; seals = seals } ≡ worked t c
noted_worked t c l register seals row slip moved told handed rows slips =
    let r = rows ∙ ap (λ x. added (x ∷ []) t.register) told in
    let s = slips ∙ ap (λ xs. added xs t.seals) (ap (λ o. slip_rows o (length t.register.rows)) handed ∙ slip_row c (length t.register.rows)) in
    λ i. record { line = moved i; register = r i; seals = s i }
