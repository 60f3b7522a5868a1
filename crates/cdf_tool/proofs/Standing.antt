-- What stays true while a script is replayed.
use Rattle.cdf_tool.proofs.Common.{AreShort, Bool, Consumes, Gathers, Goes, IsAtEnd, List, Option, Outlets, Pending, Replies, [], false, kept, length, lines, piece_limit, script_limit, split, true, whole_lines, ℕ, ◌++◌, ◌+◌, ◌≡◌, ◌≤◌}

-- on the way through these lines: some are answered, and these are left
pub record Reached (limit : ℕ) (b : List ℕ) (given : ℕ) (lines : List (Option (List ℕ))) (was : Outlets) (given' : ℕ) (ready : List (Option (List ℕ))) (image : List ℕ) (refused : Bool) (now : Outlets) (gathered : List ℕ) : Type 0 where
  pub done : List (Option (List ℕ))
  pub left : done ++ ready ≡ lines
  pub text : List ℕ
  pub goes : Goes limit b was.taps given done image now.taps refused text
  pub counted : given' ≡ given + length done
  pub gathers : Gathers was.written text now.written gathered

-- the replay stands after some bytes of the script, all whole lines of which it has answered
pub record IsAfter (limit : ℕ) (b : List ℕ) (before left : Option (List ℕ)) (first : Outlets) (lines : Pending) (image : List ℕ) (refused : Bool) (now : Outlets) (total : ℕ) : Type 0 where
  pub taken : List ℕ
  pub consumed : Consumes before left taken
  pub total_is : length taken ≡ total
  pub rest : lines.rest ≡ kept (split taken).1
  pub none_ready : lines.ready ≡ []
  pub not_over : lines.over ≡ false
  pub given : lines.given ≡ length (whole_lines taken)
  pub replies : Replies limit b 0 (whole_lines taken) image refused first now

-- the lines that the last bytes of the script so far have ended, or its end, are ready
abbrev pub IsReady : Bool → List ℕ → List ℕ → Pending → Option (List ℕ) → Type 0
IsReady true earlier last p left = (whole_lines earlier ++ p.ready ≡ whole_lines (earlier ++ last)) × (p.rest ≡ kept (split (earlier ++ last)).1) × (p.over ≡ false)
IsReady false earlier last p left = IsAtEnd left × (whole_lines earlier ++ p.ready ≡ lines (earlier ++ last))

-- the replay stands after some bytes of the script, and the lines that the last of them have ended wait to be answered; there may be more bytes, or not
pub record HasTaken (more : Bool) (limit : ℕ) (b : List ℕ) (before left : Option (List ℕ)) (first : Outlets) (p : Pending) (image : List ℕ) (refused : Bool) (now : Outlets) (total : ℕ) : Type 0 where
  pub earlier : List ℕ
  pub last : List ℕ
  pub short : length last ≤ piece_limit
  pub consumed : Consumes before left (earlier ++ last)
  pub total_is : length (earlier ++ last) ≡ total
  pub within : total ≤ script_limit
  pub given : p.given ≡ length (whole_lines earlier)
  pub replies : Replies limit b 0 (whole_lines earlier) image refused first now
  pub ready : IsReady more earlier last p left
  pub are_short : AreShort p.ready
