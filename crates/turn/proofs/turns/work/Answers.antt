use Rattle.std.proofs.Common.{is_some, Err, sym, ap, ◌∙◌}
use Rattle.std.proofs.lemmas.Result.{err_from_is_err_and}
use Rattle.std.specs.Option.{option_map}
use Rattle.line.proofs.Parts.{after_refused, after_accepted, told_ok, told_err}
use Rattle.turn.specs.Turn.{answer_of}
use Rattle.turn.specs.Turns.{turn_of}
use Rattle.turn.specs.declared.refusals.TurnRefusal.TheVariants.{Line}
use Rattle.turn.proofs.Calls.{line_err, line_ok, not_admitted, left_to_line, has_room, slip_room, noted_worked}
use Rattle.turn.proofs.Runs.{stepped, stayed}
use Rattle.turn.proofs.turns.work.Goals as goal

pub returns-in_err-admit : goal.returns-in_err-admit
returns-in_err-admit g c =
    let t = turn_of c.args.line.now c.args.register.now c.args.seals.now in
    let p = err_from_is_err_and c.from_residual.result c.from_residual.ensures.1 in
    let refused = not_admitted t c.args.call _ (told_err _ _ (sym c.admit.ensures ∙ c.in_err-admit.was)) in
    record {
      answered = p.1 ∙ ap Err p.2 ∙ sym (ap answer_of refused);
      followed = sym (stayed t c.args.call _ refused);
    }

pub returns-in_err-slip : goal.returns-in_err-slip
returns-in_err-slip g c =
    let t = turn_of c.args.line.now c.args.register.now c.args.seals.now in
    let call = c.args.call in
    let p = err_from_is_err_and c.from_residual-in_err-slip.result c.from_residual-in_err-slip.ensures.1 in
    let room = told_ok _ (sym c.admit.ensures ∙ c.in_ok-admit.was) in
    let line = line_err _ _ _ (sym c.call.ensures.answered ∙ c.in_err-slip.was) in
    let refused = left_to_line t call room ∙ ap (option_map Line) line in
    let still = c.call.ensures.followed ∙ after_refused t.line call _ line in
    record {
      answered = p.1 ∙ ap Err p.2 ∙ sym (ap answer_of refused);
      followed = (λ i. record { line = still i; register = t.register; seals = t.seals }) ∙ sym (stayed t call _ refused);
    }

pub note-requires : goal.note-requires
note-requires g c =
    let t = turn_of c.args.line.now c.args.register.now c.args.seals.now in
    let room = has_room t.register t.seals c.args.call (told_ok _ (sym c.admit.ensures ∙ c.in_ok-admit.was)) in
    let slip = (line_ok _ _ _ (sym c.call.ensures.answered ∙ c.in_ok-slip.was)).1 in
    record { room = room.0; seal_room = λ some. slip_room t.seals c.args.call room.1 (sym (ap is_some slip) ∙ some) }

pub returns : goal.returns
returns g c =
    let t = turn_of c.args.line.now c.args.register.now c.args.seals.now in
    let call = c.args.call in
    let room = told_ok _ (sym c.admit.ensures ∙ c.in_ok-admit.was) in
    let line = line_ok _ _ _ (sym c.call.ensures.answered ∙ c.in_ok-slip.was) in
    let accepted = left_to_line t call room ∙ ap (option_map Line) line.0 in
    let moved = c.call.ensures.followed ∙ after_accepted t.line call line.0 in
    let entered = noted_worked t call _ _ _ _ _ moved c.of-row.ensures line.1 c.note.ensures.rows c.note.ensures.seals in
    record {
      answered = sym (ap answer_of accepted);
      followed = entered ∙ sym (stepped t call accepted);
    }
