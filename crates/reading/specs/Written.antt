-- A call as a line of a turn sheet: its letter, its fields each after one space, and a line feed.
use Rattle.std.specs.Prelude.{ℕ, ◌<◌, List, [], ◌∷◌, ◌++◌, decimal}
use Rattle.block.specs.declared.order.Direction.{Direction}
use Rattle.block.specs.declared.order.Direction.TheVariants.{Up, Down}
use Rattle.rules.specs.declared.calls.Call.{Call}
use Rattle.rules.specs.declared.calls.Call.TheVariants.{PlaceTrain, WithdrawTrain, GiveRelease, OpenSignal, CloseSignal, EnterSection, ReturnRelease, OpenHome, ShutHome, ReachPedal, LeaveSection, ClearSection, UnsealSection, RestoreSection}

abbrev pub space : ℕ
space = 32

abbrev pub line_feed : ℕ
line_feed = 10

-- numbers have at most five digits
abbrev pub Short : ℕ → Type 0
Short n = n < 100000

-- u or d
abbrev pub direction_letter : Direction → ℕ
direction_letter Up = 117
direction_letter Down = 100

abbrev pub letter : Call → ℕ
letter (PlaceTrain n p) = 78
letter (WithdrawTrain n) = 87
letter (GiveRelease k d) = 71
letter (OpenSignal k d) = 79
letter (CloseSignal k d) = 70
letter (EnterSection n k) = 69
letter (ReturnRelease k d) = 82
letter (OpenHome k d) = 72
letter (ShutHome k d) = 83
letter (ReachPedal n k) = 84
letter (LeaveSection n k) = 76
letter (ClearSection k d) = 68
letter (UnsealSection k d) = 85
letter (RestoreSection k d) = 90

-- What a call names, in the order of its line.
pub data Fields : Type 0 where
  One : ℕ → Fields
  Two : ℕ → ℕ → Fields
  Sided : ℕ → Direction → Fields

abbrev pub fields : Call → Fields
fields (PlaceTrain n p) = Two n p
fields (WithdrawTrain n) = One n
fields (GiveRelease k d) = Sided k d
fields (OpenSignal k d) = Sided k d
fields (CloseSignal k d) = Sided k d
fields (EnterSection n k) = Two n k
fields (ReturnRelease k d) = Sided k d
fields (OpenHome k d) = Sided k d
fields (ShutHome k d) = Sided k d
fields (ReachPedal n k) = Two n k
fields (LeaveSection n k) = Two n k
fields (ClearSection k d) = Sided k d
fields (UnsealSection k d) = Sided k d
fields (RestoreSection k d) = Sided k d

-- the fields with the space between them, and the line feed
abbrev pub fields_text : Fields → List ℕ
fields_text (One m) = decimal m ++ line_feed ∷ []
fields_text (Two m n) = decimal m ++ space ∷ (decimal n ++ line_feed ∷ [])
fields_text (Sided m d) = decimal m ++ space ∷ direction_letter d ∷ line_feed ∷ []

abbrev pub Fit : Fields → Type 0
Fit (One m) = Short m
Fit (Two m n) = Short m × Short n
Fit (Sided m d) = Short m

unfoldable pub written : Call → List ℕ
written c = letter c ∷ space ∷ fields_text (fields c)

-- the numbers of the call are short enough for a line
abbrev pub Writable : Call → Type 0
Writable c = Fit (fields c)
