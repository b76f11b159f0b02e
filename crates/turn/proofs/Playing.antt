-- One call more of a list that is played.
use Rattle.std.proofs.Common.{◌≡◌, ℕ, ◌+◌, ◌<◌, ◌≤◌, List, [], ◌∷◌, ◌++◌, length, get_or, take, drop, set, Result, sym, ap, ◌∙◌, subst, append_assoc, append-nil, arith, take-append-drop, length-take, get_or-take, drop-drop, drop-set-lt}
use Rattle.std.proofs.lemmas.List.{drop_all, drop_more, take_more_set}
use Rattle.rules.specs.declared.calls.Call.{Call}
use Rattle.turn.specs.Law.{TurnLaw}
use Rattle.turn.specs.Turn.{TurnState, turn_answer, step, run, answers}
use Rattle.turn.specs.Turns.{New}
use Rattle.turn.specs.declared.refusals.TurnRefusal.{TurnRefusal}
use Rattle.turn.proofs.Good.{Good}
use Rattle.turn.proofs.Law.{turn_law}
use Rattle.turn.proofs.Runs.{good_new}

module _ (calls : List Call) (n i : ℕ) (d : Call) (here : i < n) (within : n ≤ length calls) where
  next_call : drop i (take n calls) ≡ get_or calls i d ∷ drop (i + 1) (take n calls)
  next_call =
      drop_more (take n calls) i d (omega (arith, length-take n calls)) ∙ ap (λ c. c ∷ drop (i + 1) (take n calls)) (get_or-take n calls i d here)

  module _ (t u : TurnState) (next : u ≡ step t (get_or calls i d)) where
    pub run_on : run u (drop (i + 1) (take n calls)) ≡ run t (drop i (take n calls))
    run_on = ap (λ v. run v (drop (i + 1) (take n calls))) next ∙ sym (ap (run t) next_call)

    pub answers_on : (told : List (Result (Unit {0}) TurnRefusal)) (r : Result (Unit {0}) TurnRefusal) → i < length told → r ≡ turn_answer t (get_or calls i d)
        → take (i + 1) (set told i r) ++ answers u (drop (i + 1) (take n calls)) ≡ take i told ++ answers t (drop i (take n calls))
    answers_on told r fits is =
        ap (λ xs. xs ++ answers u (drop (i + 1) (take n calls))) (take_more_set told i r fits) ∙ append_assoc (take i told) (r ∷ []) (answers u (drop (i + 1) (take n calls)))
        ∙ ap (λ x. take i told ++ x ∷ answers u (drop (i + 1) (take n calls))) is
        ∙ ap (λ v. take i told ++ turn_answer t (get_or calls i d) ∷ answers v (drop (i + 1) (take n calls))) next
        ∙ sym (ap (λ cs. take i told ++ answers t cs) next_call)

pub rest_on : {X : Type 0} (told first : List X) (i : ℕ) (x : X) → drop i told ≡ drop i first → drop (i + 1) (set told i x) ≡ drop (i + 1) first
rest_on told first i x e =
    drop-set-lt (i + 1) told i x (omega arith) ∙ sym (drop-drop 1 i told) ∙ ap (drop 1) e ∙ drop-drop 1 i first

-- what is left at the end
pub played_out : (calls : List Call) (n i : ℕ) → n ≤ i → drop i (take n calls) ≡ []
played_out calls n i h = drop_all i (take n calls) (omega (arith, length-take n calls))

pub joined : {X : Type 0} (told first ys : List X) (n i : ℕ) → i ≡ n → take i told ++ [] ≡ ys → drop i told ≡ drop i first → told ≡ ys ++ drop n first
joined told first ys n i same front back =
    sym (take-append-drop i told) ∙ (λ j. (sym (append-nil (take i told)) ∙ front) j ++ back j) ∙ ap (λ k. ys ++ drop k first) same

pub lawful : (t : TurnState) → New t → (cs : List Call) → TurnLaw t cs
lawful t new cs = turn_law t (subst Good (sym new.is) (good_new new.sections t.register.room t.seals.room new.few)) cs
