-- Each accepted call keeps a turn in good order: the way in which its section stands before it, and after it.
use Rattle.std.proofs.Common.{◌≡◌, ℕ, Bool, true, false, cond, [], ◌∷◌, ◌++◌, length, None, sym, refl, ap, ◌∙◌, subst, arith}
use Rattle.block.specs.Meaning.{phase_at}
use Rattle.block.specs.Order.{same_direction}
use Rattle.block.specs.declared.order.Action.TheVariants.{Give, Open as OpenAction, Return, Clear, Restore}
use Rattle.block.specs.declared.order.Direction.{Direction}
use Rattle.block.proofs.Steps as steps
use Rattle.rules.specs.Checks.{refusal}
use Rattle.rules.specs.Effects.{effect}
use Rattle.rules.specs.State.{section_at}
use Rattle.trains.specs.Trains.{place_of}
use Rattle.rules.specs.declared.calls.Call.{Call}
use Rattle.rules.specs.declared.calls.Call.TheVariants.{GiveRelease, OpenSignal, CloseSignal, ReturnRelease, OpenHome, ShutHome, ClearSection, UnsealSection, RestoreSection}
use Rattle.rules.specs.declared.signals.BlockSignal.{BlockSignal}
use Rattle.rules.specs.declared.signals.BlockSignal.TheVariants.{Closed, Open}
use Rattle.rules.specs.declared.signals.HomeSignal.TheVariants.{Shut, Open as HomeOpen}
use Rattle.turn.specs.Rows.{kind_of, row_of}
use Rattle.turn.specs.Turn.{TurnState}
use Rattle.turn.proofs.Decode.{section_there, instrument_works, checked}
use Rattle.turn.proofs.Good.{Good, Kept, quiet, kept}
use Rattle.turn.proofs.Signals.{block_changed, block_beside_home, block_beside_pedal, pedal_beside_block, pedal_beside_home}
use Rattle.turn.proofs.Standing.{Standing, stand_own}
use Rattle.turn.proofs.Tests.{true_false}
use Rattle.turn.proofs.Trails.{bearing, Trail, trail_past, trail_more, trail_new, falling_more}
use Rattle.turn.proofs.Ways.{Past, by_train, by_seal, Use, gone, unused, pulled, put_back, returned, Way, rest, given, held, cleared, signal_of, marks_of}

module _ (t : TurnState) (g : Good t) where
  -- section k, in a way that is known
  pub standing : (k : ℕ) (w : Way) → g.way k ≡ w → Standing (phase_at t.line.phases k) (section_at t.line.sections k) (λ n. place_of n t.line.trains) t.register.rows k w
  standing k w is = subst (λ v. Standing (phase_at t.line.phases k) (section_at t.line.sections k) (λ n. place_of n t.line.trains) t.register.rows k v) is (g.stands k)

  abbrev pub new : ℕ
  new = length t.register.rows

  -- a row that bears on no release leaves the trail
  pub trail_still : (c : Call) (k : ℕ) (w : Way) → bearing (kind_of c) ≡ false → Standing (phase_at t.line.phases k) (section_at t.line.sections k) (λ n. place_of n t.line.trains) t.register.rows k w → Trail (t.register.rows ++ row_of t.line c ∷ []) k (marks_of k w)
  trail_still c k w plain s = trail_past t.register.rows k (row_of t.line c) (marks_of k w) s.trail_is (λ b h. true_false (sym b ∙ plain))

  module _ (k : ℕ) (d : Direction) where
    pub give : (p : Past) → g.way k ≡ rest p → refusal t.line (GiveRelease k d) ≡ None → Kept t (GiveRelease k d) k (given d new)
    unfolding effect
    give p is e =
        let c = GiveRelease k d in
        let pass = checked t.line c e in
        let s = standing k (rest p) is in
        kept t g c k refl (section_there t.line k pass.0) (quiet t g c refl refl) (given d new)
        (stand_own s (row_of t.line c) refl (given d new) _ _ _
        ((steps.step t.line.phases Give k d).brought (instrument_works t.line Give k d pass.1.0))
        s.block_is
        s.pedal_is
        s.inside_is
        (trail_new t.register.rows k (row_of t.line c))
        (omega arith, tt)
        refl)

    pub open_signal : (x : ℕ) → g.way k ≡ given d x → refusal t.line (OpenSignal k d) ≡ None → Kept t (OpenSignal k d) k (held d pulled unused x new)
    unfolding effect
    open_signal x is e =
        let c = OpenSignal k d in
        let pass = checked t.line c e in
        let s = standing k (given d x) is in
        let old = section_at t.line.sections k in
        kept t g c k refl (section_there t.line k pass.0) (quiet t g c refl refl) (held d pulled unused x new)
        (stand_own s (row_of t.line c) refl (held d pulled unused x new) _ _ _
        ((steps.step t.line.phases OpenAction k d).brought (instrument_works t.line OpenAction k d pass.1.0))
        (λ f. block_changed d f Open old ∙ ap (cond (same_direction d f) Open) (s.block_is f))
        (pedal_beside_block d Open old ∙ s.pedal_is)
        s.inside_is
        (trail_more t.register.rows k (row_of t.line c) _ _ s.trail_is)
        (omega arith, s.falls)
        refl)

    pub close_signal : (u : Use) (x o : ℕ) → g.way k ≡ held d pulled u x o → refusal t.line (CloseSignal k d) ≡ None → Kept t (CloseSignal k d) k (held d put_back u x o)
    unfolding effect
    close_signal u x o is e =
        let c = CloseSignal k d in
        let pass = checked t.line c e in
        let s = standing k (held d pulled u x o) is in
        let old = section_at t.line.sections k in
        kept t g c k refl (section_there t.line k pass.0) (quiet t g c refl refl) (held d put_back u x o)
        (stand_own s (row_of t.line c) refl (held d put_back u x o) _ _ _
        s.phase_is
        (λ f. block_changed d f Closed old ∙ ap (cond (same_direction d f) Closed) (s.block_is f) ∙ twice (same_direction d f) (signal_of pulled u))
        (pedal_beside_block d Closed old ∙ s.pedal_is)
        s.inside_is
        (trail_still c k (held d pulled u x o) refl s)
        (falling_more new (marks_of k (held d pulled u x o)) s.falls)
        (omega arith))
      where
        twice : (b : Bool) (y : BlockSignal) → cond b Closed (cond b y Closed) ≡ cond b Closed Closed
        twice true y = refl
        twice false y = refl

    pub return_release : (u : Use) (x o : ℕ) → g.way k ≡ held d put_back u x o → refusal t.line (ReturnRelease k d) ≡ None → Kept t (ReturnRelease k d) k (held d returned u x o)
    unfolding effect
    return_release u x o is e =
        let c = ReturnRelease k d in
        let pass = checked t.line c e in
        let s = standing k (held d put_back u x o) is in
        kept t g c k refl (section_there t.line k pass.0) (quiet t g c refl refl) (held d returned u x o)
        (stand_own s (row_of t.line c) refl (held d returned u x o) _ _ _
        ((steps.step t.line.phases Return k d).brought (instrument_works t.line Return k d pass.1.1.0))
        s.block_is
        s.pedal_is
        s.inside_is
        (trail_still c k (held d put_back u x o) refl s)
        (falling_more new (marks_of k (held d put_back u x o)) s.falls)
        (omega arith))

    pub open_home : (w : Way) → g.way k ≡ w → refusal t.line (OpenHome k d) ≡ None → Kept t (OpenHome k d) k w
    unfolding effect
    open_home w is e =
        let c = OpenHome k d in
        let pass = checked t.line c e in
        let s = standing k w is in
        let old = section_at t.line.sections k in
        kept t g c k refl (section_there t.line k pass.0) (quiet t g c refl refl) w
        (stand_own s (row_of t.line c) refl w _ _ _
        s.phase_is
        (λ f. block_beside_home d f HomeOpen old ∙ s.block_is f)
        (pedal_beside_home d HomeOpen old ∙ s.pedal_is)
        s.inside_is
        (trail_still c k w refl s)
        (falling_more new (marks_of k w) s.falls)
        (omega arith))

    pub shut_home : (w : Way) → g.way k ≡ w → refusal t.line (ShutHome k d) ≡ None → Kept t (ShutHome k d) k w
    unfolding effect
    shut_home w is e =
        let c = ShutHome k d in
        let pass = checked t.line c e in
        let s = standing k w is in
        let old = section_at t.line.sections k in
        kept t g c k refl (section_there t.line k pass.0) (quiet t g c refl refl) w
        (stand_own s (row_of t.line c) refl w _ _ _
        s.phase_is
        (λ f. block_beside_home d f Shut old ∙ s.block_is f)
        (pedal_beside_home d Shut old ∙ s.pedal_is)
        s.inside_is
        (trail_still c k w refl s)
        (falling_more new (marks_of k w) s.falls)
        (omega arith))

    pub clear_section : (n a b x o : ℕ) → g.way k ≡ held d returned (gone n a b) x o → refusal t.line (ClearSection k d) ≡ None
        → Kept t (ClearSection k d) k (cleared d (by_train d x o n a b new))
    unfolding effect
    clear_section n a b x o is e =
        let c = ClearSection k d in
        let pass = checked t.line c e in
        let s = standing k (held d returned (gone n a b) x o) is in
        kept t g c k refl (section_there t.line k pass.0) (quiet t g c refl refl) (cleared d (by_train d x o n a b new))
        (stand_own s (row_of t.line c) refl (cleared d (by_train d x o n a b new)) _ _ _
        ((steps.step t.line.phases Clear k d).brought (instrument_works t.line Clear k d pass.1.1.1.0))
        (λ f. s.block_is f ∙ closed (same_direction d f))
        s.pedal_is
        s.inside_is
        (trail_more t.register.rows k (row_of t.line c) _ _ s.trail_is)
        (omega arith, s.falls)
        refl)
      where
        closed : (b : Bool) → cond b Closed Closed ≡ Closed
        closed true = refl
        closed false = refl

    pub unseal_section : (x o : ℕ) → g.way k ≡ held d returned unused x o → refusal t.line (UnsealSection k d) ≡ None
        → Kept t (UnsealSection k d) k (cleared d (by_seal d x o new))
    unfolding effect
    unseal_section x o is e =
        let c = UnsealSection k d in
        let pass = checked t.line c e in
        let s = standing k (held d returned unused x o) is in
        kept t g c k refl (section_there t.line k pass.0) (quiet t g c refl refl) (cleared d (by_seal d x o new))
        (stand_own s (row_of t.line c) refl (cleared d (by_seal d x o new)) _ _ _
        ((steps.step t.line.phases Clear k d).brought (instrument_works t.line Clear k d pass.1.1.1.1.0))
        (λ f. s.block_is f ∙ closed (same_direction d f))
        s.pedal_is
        s.inside_is
        (trail_more t.register.rows k (row_of t.line c) _ _ s.trail_is)
        (omega arith, s.falls)
        refl)
      where
        closed : (b : Bool) → cond b Closed Closed ≡ Closed
        closed true = refl
        closed false = refl

    pub restore_section : (p : Past) → g.way k ≡ cleared d p → refusal t.line (RestoreSection k d) ≡ None → Kept t (RestoreSection k d) k (rest p)
    unfolding effect
    restore_section p is e =
        let c = RestoreSection k d in
        let pass = checked t.line c e in
        let s = standing k (cleared d p) is in
        let old = section_at t.line.sections k in
        kept t g c k refl (section_there t.line k pass.0) (quiet t g c refl refl) (rest p)
        (stand_own s (row_of t.line c) refl (rest p) _ _ _
        ((steps.step t.line.phases Restore k d).brought (instrument_works t.line Restore k d pass.1.1.0))
        (λ f. block_beside_pedal f false old ∙ s.block_is f)
        refl
        s.inside_is
        (trail_still c k (cleared d p) refl s)
        (falling_more new (marks_of k (cleared d p)) s.falls)
        refl)
