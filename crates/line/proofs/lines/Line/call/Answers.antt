use Rattle.std.proofs.Common.{◌≡◌, Ok, Err, rules, sym, ap, ◌∙◌}
use Rattle.std.proofs.lemmas.Result.{err_from_is_err_and}
use Rattle.rules.specs.Calls.{section_of, direction_of, action_of}
use Rattle.rules.specs.Checks.{told, unfit}
use Rattle.line.specs.Lines.{answered}
use Rattle.rules.specs.Slips.{slip_of}
use Rattle.rules.specs.State.{LineState}
use Rattle.line.specs.Working.{with_phases, ask_answer, ask_after}
use Rattle.line.proofs.Parts.{refused_unfit, refused_own, left_to_ask, after_refused, after_accepted, asked_in_vain, told_ok, told_err, worked_in_parts}
use Rattle.line.proofs.lines.Line.call.Goals as goal

pub returns-in_err-check : goal.returns-in_err-check
returns-in_err-check g c =
    let s = c.args.self.now in
    let p = err_from_is_err_and c.from_residual.result c.from_residual.ensures.1 in
    let refused = refused_unfit s c.args.call _ (told_err _ _ (sym (c.check.ensures ∙ ap (λ (x : LineState). told (unfit x.condition)) c.self.view_is) ∙ c.in_err-check.was)) in
    record {
      answered = p.1 ∙ ap Err p.2 ∙ sym (ap (λ o. answered o (slip_of c.args.call)) refused);
      followed = sym (after_refused s c.args.call _ refused);
    }

pub returns-in_err-examine : goal.returns-in_err-examine
returns-in_err-examine g c =
    let s = c.args.self.now in
    let p = err_from_is_err_and c.from_residual-in_err-examine.result c.from_residual-in_err-examine.ensures.1 in
    let fit = told_ok _ (sym (c.check.ensures ∙ ap (λ (x : LineState). told (unfit x.condition)) c.self.view_is) ∙ c.in_ok-check.was) in
    let refused = refused_own s c.args.call _ fit (told_err _ _ (sym c.examine.ensures ∙ c.in_err-examine.was)) in
    record {
      answered = p.1 ∙ ap Err p.2 ∙ sym (ap (λ o. answered o (slip_of c.args.call)) refused);
      followed = sym (after_refused s c.args.call _ refused);
    }

pub returns-in_err-ask : goal.returns-in_err-ask
returns-in_err-ask g c =
    let s = c.args.self.now in
    let p = err_from_is_err_and c.from_residual-in_err-ask.result c.from_residual-in_err-ask.ensures.1 in
    let fit = told_ok _ (sym (c.check.ensures ∙ ap (λ (x : LineState). told (unfit x.condition)) c.self.view_is) ∙ c.in_ok-check.was) in
    let way = ap (λ o. ask_answer c.args.call o s) c.direction_of-way.ensures in
    let vain = told_err _ _ (sym (c.ask.ensures.answered ∙ way) ∙ c.in_err-ask.was) in
    let refused = left_to_ask s c.args.call fit (told_ok _ (sym c.examine.ensures ∙ c.in_ok-examine.was)) ∙ vain in
    record {
      answered = p.1 ∙ ap Err p.2 ∙ sym (ap (λ o. answered o (slip_of c.args.call)) refused);
      followed =
          c.ask.ensures.followed ∙ ap (λ o. ask_after c.args.call o s) c.direction_of-way.ensures
          ∙ ap (λ ps. with_phases ps s) (asked_in_vain s (action_of c.args.call) (section_of c.args.call) (direction_of s c.args.call) _ vain)
          ∙ sym (after_refused s c.args.call _ refused);
    }

pub returns : goal.returns
returns g c =
    let s = c.args.self.now in
    let call = c.args.call in
    let fit = told_ok _ (sym (c.check.ensures ∙ ap (λ (x : LineState). told (unfit x.condition)) c.self.view_is) ∙ c.in_ok-check.was) in
    let own = told_ok _ (sym c.examine.ensures ∙ c.in_ok-examine.was) in
    let way = ap (λ o. ask_answer call o s) c.direction_of-way.ensures in
    let accepted = left_to_ask s call fit own ∙ told_ok _ (sym (c.ask.ensures.answered ∙ way) ∙ c.in_ok-ask.was) in
    let slip_told : _ ≡ Ok (slip_of call) = search rules in
    record {
      answered = slip_told ∙ sym (ap (λ o. answered o (slip_of call)) accepted);
      followed =
          worked_in_parts s call c.direction_of-way.result _ _ _ c.direction_of-way.ensures (c.self-2.view_is ∙ c.ask.ensures.followed) c.apply_to_section.ensures c.apply_to_trains.ensures.value
          ∙ sym (after_accepted s call accepted);
    }
