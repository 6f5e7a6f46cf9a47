-- Which line a reply is told with.
use Rattle.std.specs.{Prelude.{◌≡◌, String, List, [], ◌∷◌, Option, Some, None}, declared.alloc.Global.{Global}}
use Rattle.moo_text.specs.{declared.reply.Reply.{Reply}, declared.reply.Reply.TheVariants.{Accepted, Refused, Full, Stale, NoMemory}}
use Rattle.moo_reasons.specs.declared.line.Why.{Why}

-- the first of these lines, and those after it
abbrev pub IsFirstLine : List Why → Option (String Global) → List Why → Type 0
IsFirstLine [] line rest = (line ≡ None) × (rest ≡ [])
IsFirstLine (why ∷ whys) line rest = (line ≡ Some why.text) × (rest ≡ whys)

-- a reply Refused is told with the first line and takes it, if there is one; another reply takes none
abbrev pub TellsReply : List Why → Reply → Option (String Global) → List Why → Type 0
TellsReply whys (Refused call code) line rest = IsFirstLine whys line rest
TellsReply whys (Accepted seq answers) line rest = rest ≡ whys
TellsReply whys (Full call) line rest = rest ≡ whys
TellsReply whys (Stale seq) line rest = rest ≡ whys
TellsReply whys NoMemory line rest = rest ≡ whys

-- a reply Refused is told with the first line and takes it; another reply takes none, and so does a place without a reply
abbrev pub TellsPlace : List Why → Option Reply → Option (String Global) → List Why → Type 0
TellsPlace whys (Some reply) line rest = TellsReply whys reply line rest
TellsPlace whys None line rest = rest ≡ whys

-- places are told with lines in turn: each reply that refuses with the first that is left
abbrev pub AreTold : List Why → List (Option Reply) → List (Option (String Global)) → List Why → Type 0
AreTold whys [] [] rest = rest ≡ whys
AreTold whys (reply ∷ replies) (line ∷ lines) rest = (left : List Why) × TellsPlace whys reply line left × AreTold left replies lines rest
AreTold whys replies lines rest = ⊥
