-- A session stays open.
use Rattle.cdf_session.proofs.Common.{Answers, AreaError, Bool, Done, Err, Follows, Frame, Good, IfOk, IsOpen, Known, Knows, List, MovesIf, None, Ok, OnErr, OnOk, Result, Some, ap, arith, content, false, head_of, inl, inr, is_full, length, nat_lt, refl, shape, subst, sym, transport, true, with_base, ℕ, ◌&&◌, ◌++◌, ◌+◌, ◌∙◌, ◌≡◌, ◌≤◌}
use Rattle.cdf_attrs.proofs.KnownAttributes.{known_stays}
use Rattle.cdf_puts.specs.Starts.{IsKnownOf, KnowsStarts}
use Rattle.cdf_puts.specs.declared.starts.Starts.{Starts}
use Rattle.std.proofs.lemmas.Result.{on_err_weaker}
use Rattle.cdf_vars.specs.Known.{Known as KnownVariables, Knows as KnowsVariables}
use Rattle.cdf_edits.specs.Commands.Others.{is_on_attributes, is_on_entries, is_on_variables}
use Rattle.cdf_edits.specs.Commands.Room.{room}
use Rattle.cdf_edits.proofs.Commands.OthersStay.{attributes_stay, indexes_stay, variables_stay}
use Rattle.cdf_edits.proofs.Commands.SameEntries.{entries_stay}
use Rattle.cdf_edits.proofs.Commands.ReadingFollows.{reading_follows}
use Rattle.cdf_format.proofs.Members.{either}
use Rattle.cdf_model.specs.declared.answer.Outcome.{Outcome}
use Rattle.cdf_model.specs.declared.answer.Reply.TheVariants as replies
use Rattle.cdf_model.specs.declared.command.Command.{Command}
use Rattle.cdf_model.specs.declared.command.Command.TheVariants as commands
use Rattle.cdf_model.specs.declared.head.Head.{Head}
use Rattle.cdf_model.specs.declared.item.Item.{Item}
use Rattle.cdf_format.specs.NotRead.{IsRead}
use Rattle.cdf_format.specs.Shape.{Each, VariableShape, variables}
use Rattle.cdf_session.proofs.StepsRead.{follows_read}
use Rattle.cdf_session.specs.Built.{built}
use Rattle.cdf_model.specs.declared.kinds.EntryKind.{EntryKind}
use Rattle.cdf_model.specs.declared.kinds.Kind.TheVariants.{R, Z}
use Rattle.std.proofs.Common.{ap₂}
use Rattle.cdf_model.specs.DataSet.{DataSet}
use Rattle.cdf_model.specs.Answers.{Answer, Go, Refuse, is_accepted}
use Rattle.cdf_model.specs.Listing.{attribute_items, items_of, variable_items}

-- ---- the image stays

pub stays_open : {U : Type 0} (b now : List ℕ) (frame after : Frame U) (known : Known) (vars : KnownVariables) → IsOpen b frame known vars → now ≡ b → after ≡ frame → IsOpen now after known vars
stays_open b now frame after known vars was same kept = transport (λ i. IsOpen (sym same i) (sym kept i) known vars) was

-- the same, with other entries kept
pub reads_open : {U : Type 0} (b now : List ℕ) (frame after : Frame U) (known known' : Known) (vars : KnownVariables) → IsOpen b frame known vars → now ≡ b → after ≡ frame → Knows now known' → IsOpen now after known' vars
reads_open b now frame after known known' vars was same kept knows =
    let there : IsOpen b frame known' vars = record { good = was.good; read = was.read; fits = was.fits; limited = was.limited; unmarked = was.unmarked; knows = subst (λ (x : List ℕ). Knows x known') same knows; knows_variables = was.knows_variables } in
    transport (λ i. IsOpen (sym same i) (sym kept i) known' vars) there

pub good_stays : (b now : List ℕ) → Good b → now ≡ b → Good now
good_stays b now good same = subst Good (sym same) good

pub info_answers : (limit : ℕ) (b now : List ℕ) (head : Head) → Good b → length b ≤ limit → now ≡ b → head ≡ head_of (content b) → Answers limit b commands.Info (Done (replies.Head head)) now
info_answers limit b now head good fits same is =
    let room_left : nat_lt limit (length b + 0) ≡ false = search (arith, fits) in
    let follows : Follows b commands.Info now = subst (Follows b commands.Info) (sym same) (reading_follows b commands.Info (replies.Head (head_of (content b))) refl refl good) in
    record { answer = Go (content b) (replies.Head (head_of (content b))); step_is = refl; outcome_is = rw room_left (ap (λ (h : Head). Done (replies.Head h)) is); moves = rw room_left follows }

pub list_answers : (limit : ℕ) (b now : List ℕ) (items : List Item) → Good b → length b ≤ limit → now ≡ b → items ≡ items_of (content b) → Answers limit b commands.List (Done (replies.Listing items)) now
list_answers limit b now items good fits same is =
    let room_left : nat_lt limit (length b + 0) ≡ false = search (arith, fits) in
    let follows : Follows b commands.List now = subst (Follows b commands.List) (sym same) (reading_follows b commands.List (replies.Listing (items_of (content b))) refl refl good) in
    record { answer = Go (content b) (replies.Listing (items_of (content b))); step_is = refl; outcome_is = rw room_left (ap (λ (shown : List Item). Done (replies.Listing shown)) is); moves = rw room_left follows }

-- the attributes, and then the variables
pub listed : (b read : List ℕ) (attributes items : List Item) → read ≡ b → attributes ≡ attribute_items 0 (content b).attributes
    → items ≡ attributes ++ variable_items R 0 (content read).r_variables ++ variable_items Z 0 (content read).z_variables → items ≡ items_of (content b)
listed b read attributes items same first all = all ∙ (λ i. first i ++ variable_items R 0 (content (same i)).r_variables ++ variable_items Z 0 (content (same i)).z_variables)

-- the nodes that are kept
pub starts_stay : (b now : List ℕ) (starts after : Starts) → KnowsStarts b starts → after ≡ starts → now ≡ b → KnowsStarts now after
starts_stay b now starts after knows same stays = transport (λ i. KnowsStarts (sym stays i) (sym same i)) knows

-- ---- a command that changes, between a mark and its end

-- the command is on no attribute and on no entry
pub record LeavesEntries (c : Command) : Type 0 where
  pub not_on_attributes : is_on_attributes c ≡ false
  pub on_no_entry : (d : DataSet) (n : ℕ) (kind : EntryKind) → is_on_entries d c n kind ≡ false

-- a command is accepted only where its image is not too long
accepted_fits : (answer : Answer) (long : Bool) → is_accepted answer (is_accepted answer false && long) ≡ true → long ≡ false
accepted_fits (Go d reply) true e = absurd cc
accepted_fits (Go d reply) false e = refl
accepted_fits (Refuse reason) long e = absurd cc

pub answered_good : (limit : ℕ) (b now : List ℕ) (c : Command) (o : Outcome) → Answers limit b c o now → Good b → length b ≤ limit → Good now × (length now ≤ limit)
answered_good limit b now c o a good fits = elim (either (is_accepted a.answer (is_full limit b c a.answer))) [
  | inl e ↦
      let follows : Follows b c now = subst (λ (p : Bool). MovesIf p b c now) e a.moves in
      let short : nat_lt limit (length b + room b c) ≡ false = accepted_fits a.answer (nat_lt limit (length b + room b c)) e in
      (follows.good, short_enough (length now) (length b + room b c) follows.within short)
  | inr e ↦
      let same : now ≡ b = subst (λ (p : Bool). MovesIf p b c now) e a.moves in
      (subst Good (sym same) good, subst (λ (x : List ℕ). length x ≤ limit) (sym same) fits)
]
  where
    short_enough : (n m : ℕ) → n ≤ m → nat_lt limit m ≡ false → n ≤ limit
    short_enough n m le e = grind (arith)

-- what is so before a command and of the image that it leads to is so after its answer
answered_so : (P : List ℕ → Type 0) (limit : ℕ) (b now : List ℕ) (c : Command) (o : Outcome) → Answers limit b c o now → P b → (Follows b c now → P now) → P now
answered_so P limit b now c o a before led = elim (either (is_accepted a.answer (is_full limit b c a.answer))) [
  | inl e ↦ led (subst (λ (p : Bool). MovesIf p b c now) e a.moves)
  | inr e ↦
      let same : now ≡ b = subst (λ (p : Bool). MovesIf p b c now) e a.moves in
      subst P (sym same) before
]

pub on_err : {T E P : Type 0} (r : Result T E) → P → OnErr r P
on_err (Ok x) p = tt
on_err (Err e) p = p

-- a command that is not on variables leaves what is known of them
pub variables_known : (b now : List ℕ) (c : Command) (vars : KnownVariables) → is_on_variables c ≡ false → Good b → Follows b c now → KnowsVariables b vars → KnowsVariables now vars
variables_known b now c vars other good follows knows =
    let stay = variables_stay b now c other good follows in
    record {
      r_known = record { names_are = knows.r_known.names_are ∙ sym (stay.names_stay R); places_are = knows.r_known.places_are ∙ sym (stay.places_stay R) };
      z_known = record { names_are = knows.z_known.names_are ∙ sym (stay.names_stay Z); places_are = knows.z_known.places_are ∙ sym (stay.places_stay Z) };
    }

variables_after : (limit : ℕ) (b start made : List ℕ) (c : Command) (vars : KnownVariables) → is_on_variables c ≡ false → Good b → KnowsVariables b vars → start ≡ b
    → (done : Result Outcome AreaError) → IfOk done (λ o. Answers limit start c o made) → OnOk done (KnowsVariables made vars)
variables_after limit b start made c vars other good knows begins (Ok o) answers =
    answered_so (λ (x : List ℕ). KnowsVariables x vars) limit b made c o (subst (λ (x : List ℕ). Answers limit x c o made) begins answers) knows (λ f. variables_known b made c vars other good f knows)
variables_after limit b start made c vars other good knows begins (Err error) answers = tt

-- one that is on no attribute and on no entry leaves what is known of them
pub attributes_known : (b now : List ℕ) (c : Command) (known : Known) → LeavesEntries c → Good b → Follows b c now → Knows b known → Knows now known
attributes_known b now c known other good follows knows =
    let stay = attributes_stay b now c other.not_on_attributes good follows in
    known_stays (knows.names_are ∙ sym stay.names_stay) (knows.places_are ∙ sym stay.places_stay) knows (λ n own kind at. entries_stay b now c n own kind at (other.on_no_entry (content b) n kind) good follows)

attributes_after : (limit : ℕ) (b start made : List ℕ) (c : Command) (known : Known) → LeavesEntries c → Good b → Knows b known → start ≡ b
    → (done : Result Outcome AreaError) → IfOk done (λ o. Answers limit start c o made) → OnOk done (Knows made known)
attributes_after limit b start made c known other good knows begins (Ok o) answers =
    answered_so (λ (x : List ℕ). Knows x known) limit b made c o (subst (λ (x : List ℕ). Answers limit x c o made) begins answers) knows (λ f. attributes_known b made c known other good f knows)
attributes_after limit b start made c known other good knows begins (Err error) answers = tt

-- one that is not on variables leaves the nodes that are known of their indexes
pub starts_known : (b now : List ℕ) (c : Command) (starts : Starts) → is_on_variables c ≡ false → Good b → Follows b c now → KnowsStarts b starts → KnowsStarts now starts
starts_known b now c starts other good follows knows =
    let stay = indexes_stay b now c other good follows in
    let same : variables (shape now) ≡ variables (shape b) = ap₂ (λ (rs zs : List VariableShape). rs ++ zs) (stay.shapes_stay R) (stay.shapes_stay Z) in
    record { each = subst (Each (IsKnownOf starts)) (sym same) knows.each }

starts_after : (limit : ℕ) (b start made : List ℕ) (c : Command) (starts : Starts) → is_on_variables c ≡ false → Good b → KnowsStarts b starts → start ≡ b
    → (done : Result Outcome AreaError) → IfOk done (λ o. Answers limit start c o made) → OnOk done (KnowsStarts made starts)
starts_after limit b start made c starts other good knows begins (Ok o) answers =
    answered_so (λ (x : List ℕ). KnowsStarts x starts) limit b made c o (subst (λ (x : List ℕ). Answers limit x c o made) begins answers) knows (λ f. starts_known b made c starts other good f knows)
starts_after limit b start made c starts other good knows begins (Err error) answers = tt

-- the mark is gone at the end
pub frame_back : {U : Type 0} (frame marked end : Frame U) (b : List ℕ) → frame.base ≡ None → marked ≡ with_base frame (Some b) → end ≡ with_base marked None → end ≡ frame
frame_back frame marked end b unmarked is ends = ends ∙ ap (λ (f : Frame _). with_base f None) is ∙ ap (with_base frame) (sym unmarked)

some_same : (b now : List ℕ) → Some b ≡ Some now → now ≡ b
some_same b now e = cc e

-- It was carried out and kept, or it was not and all was taken back. The facts are those that the calls between give.
pub ends_known : {U : Type 0} (b start made now : List ℕ) (frame first marked end : Frame U) (known after : Known) (vars vars' : KnownVariables) (c : Command) → built c ≡ true → (done : Result Outcome AreaError)
    → IsOpen b frame known vars → start ≡ b → first ≡ with_base frame (Some b) → marked ≡ first → end ≡ with_base marked None → IfOk done (λ o. Answers first.limit start c o made)
    → OnOk done (Knows made after) → OnErr done (Knows start after) → OnOk done (KnowsVariables made vars') → OnErr done (KnowsVariables start vars')
    → OnOk done (now ≡ made) → OnErr done (marked.base ≡ Some now) → IsOpen now end after vars'
ends_known b start made now frame first marked end known after vars vars' c there_is (Ok o) was begins is stays ends answers knows stay knows_variables stay_variables kept undone =
    let f = frame_back frame marked end b was.unmarked (stays ∙ is) ends in
    let limit : first.limit ≡ frame.limit = ap (λ (m : Frame _). m.limit) is in
    let answered : Answers frame.limit b c o made = transport (λ i. Answers (limit i) (begins i) c o made) answers in
    let good = answered_good frame.limit b made c o answered was.good was.fits in
    let read = answered_so IsRead frame.limit b made c o answered was.read (follows_read {b = b} {now = made} {c = c} was.good was.read there_is) in
    let there : IsOpen made frame after vars' = record { good = good.0; read = read; fits = good.1; limited = was.limited; unmarked = was.unmarked; knows = knows; knows_variables = knows_variables } in
    transport (λ i. IsOpen (sym kept i) (sym f i) after vars') there
ends_known b start made now frame first marked end known after vars vars' c there_is (Err error) was begins is stays ends answers knows stay knows_variables stay_variables kept undone =
    let f = frame_back frame marked end b was.unmarked (stays ∙ is) ends in
    let back : now ≡ b = some_same b now (sym (ap (λ (m : Frame _). m.base) (stays ∙ is)) ∙ undone) in
    let there : IsOpen start frame after vars' = record { good = good_stays b start was.good begins; read = subst IsRead (sym begins) was.read; fits = subst (λ (x : List ℕ). length x ≤ frame.limit) (sym begins) was.fits; limited = was.limited; unmarked = was.unmarked; knows = stay; knows_variables = stay_variables } in
    transport (λ i. IsOpen ((begins ∙ sym back) i) (sym f i) after vars') there

-- of a command on attributes
pub ends_open : {U : Type 0} (b start made now : List ℕ) (frame first marked end : Frame U) (known after : Known) (vars : KnownVariables) (c : Command) → is_on_variables c ≡ false → built c ≡ true → (done : Result Outcome AreaError)
    → IsOpen b frame known vars → start ≡ b → first ≡ with_base frame (Some b) → marked ≡ first → end ≡ with_base marked None
    → IfOk done (λ o. Answers first.limit start c o made) → OnOk done (Knows made after) → OnErr done (Knows start after)
    → OnOk done (now ≡ made) → OnErr done (marked.base ≡ Some now) → IsOpen now end after vars
ends_open b start made now frame first marked end known after vars c other there_is done was begins is stays ends answers knows stay kept undone =
    ends_known b start made now frame first marked end known after vars vars c there_is done was begins is stays ends answers knows stay
    (variables_after first.limit b start made c vars other was.good was.knows_variables begins done answers)
    (on_err done (subst (λ (x : List ℕ). KnowsVariables x vars) (sym begins) was.knows_variables)) kept undone

-- of a command on variables
pub ends_on_variables : {U : Type 0} (b start made now : List ℕ) (frame first marked end : Frame U) (known : Known) (vars vars' : KnownVariables) (c : Command) → LeavesEntries c → built c ≡ true → (done : Result Outcome AreaError)
    → IsOpen b frame known vars → start ≡ b → first ≡ with_base frame (Some b) → marked ≡ first → end ≡ with_base marked None
    → IfOk done (λ o. Answers first.limit start c o made) → OnOk done (KnowsVariables made vars') → OnErr done (KnowsVariables start vars')
    → OnOk done (now ≡ made) → OnErr done (marked.base ≡ Some now) → IsOpen now end known vars'
ends_on_variables b start made now frame first marked end known vars vars' c other there_is done was begins is stays ends answers knows stay kept undone =
    ends_known b start made now frame first marked end known known vars vars' c there_is done was begins is stays ends answers
    (attributes_after first.limit b start made c known other was.good was.knows begins done answers)
    (on_err done (subst (λ (x : List ℕ). Knows x known) (sym begins) was.knows)) knows stay kept undone

-- the nodes that are kept, which stay where all was taken back
ends_starting : (start made now : List ℕ) (after : Starts) (done : Result Outcome AreaError) → OnOk done (KnowsStarts made after) → OnErr done (KnowsStarts start after) → OnOk done (now ≡ made) → OnErr done (now ≡ start) → KnowsStarts now after
ends_starting start made now after (Ok o) knows stay kept back = subst (λ (x : List ℕ). KnowsStarts x after) (sym kept) knows
ends_starting start made now after (Err error) knows stay kept back = subst (λ (x : List ℕ). KnowsStarts x after) (sym back) stay

-- where an error came, all was taken back
back_at_start : {U : Type 0} (b start now : List ℕ) (frame first marked : Frame U) → start ≡ b → first ≡ with_base frame (Some b) → marked ≡ first → (done : Result Outcome AreaError) → OnErr done (marked.base ≡ Some now) → OnErr done (now ≡ start)
back_at_start b start now frame first marked begins is stays done undone = on_err_weaker done (λ base. some_same b now (sym (ap (λ (m : Frame _). m.base) (stays ∙ is)) ∙ base) ∙ sym begins) undone

-- of a command on variables by which none comes, goes or gets another name or place
pub ends_on_own : {U : Type 0} (b start made now : List ℕ) (frame first marked end : Frame U) (known : Known) (vars : KnownVariables) (c : Command) → LeavesEntries c → built c ≡ true → (done : Result Outcome AreaError)
    → IsOpen b frame known vars → start ≡ b → first ≡ with_base frame (Some b) → marked ≡ first → end ≡ with_base marked None
    → IfOk done (λ o. Answers first.limit start c o made) → OnOk done (KnowsVariables made vars)
    → OnOk done (now ≡ made) → OnErr done (marked.base ≡ Some now) → IsOpen now end known vars
ends_on_own b start made now frame first marked end known vars c other there_is done was begins is stays ends answers knows kept undone =
    ends_on_variables b start made now frame first marked end known vars vars c other there_is done was begins is stays ends answers knows
    (on_err done (subst (λ (x : List ℕ). KnowsVariables x vars) (sym begins) was.knows_variables)) kept undone

-- of such a command, with the nodes that are kept
pub ends_on_records : {U : Type 0} (b start made now : List ℕ) (frame first marked end : Frame U) (known : Known) (vars : KnownVariables) (starts : Starts) (c : Command) → LeavesEntries c → built c ≡ true → (done : Result Outcome AreaError)
    → IsOpen b frame known vars → start ≡ b → first ≡ with_base frame (Some b) → marked ≡ first → end ≡ with_base marked None
    → IfOk done (λ o. Answers first.limit start c o made) → OnOk done (KnowsVariables made vars) → OnOk done (KnowsStarts made starts) → OnErr done (KnowsStarts start starts)
    → OnOk done (now ≡ made) → OnErr done (marked.base ≡ Some now) → IsOpen now end known vars × KnowsStarts now starts
ends_on_records b start made now frame first marked end known vars starts c other there_is done was begins is stays ends answers knows knows_starts starts_stay kept undone = (
  ends_on_own b start made now frame first marked end known vars c other there_is done was begins is stays ends answers knows kept undone,
  ends_starting start made now starts done knows_starts starts_stay kept (back_at_start b start now frame first marked begins is stays done undone),
)

-- of a command that is not on variables, the nodes that are kept
pub ends_with_starts : {U : Type 0} (b start made now : List ℕ) (frame first marked : Frame U) (starts after : Starts) (c : Command) → is_on_variables c ≡ false → (done : Result Outcome AreaError)
    → Good b → KnowsStarts b starts → after ≡ starts → start ≡ b → first ≡ with_base frame (Some b) → marked ≡ first
    → IfOk done (λ o. Answers first.limit start c o made) → OnOk done (now ≡ made) → OnErr done (marked.base ≡ Some now) → KnowsStarts now after
ends_with_starts b start made now frame first marked starts after c other done good knows same begins is stays answers kept undone =
    subst (KnowsStarts now) (sym same)
    (ends_starting start made now starts done (starts_after first.limit b start made c starts other good knows begins done answers) (on_err done (subst (λ (x : List ℕ). KnowsStarts x starts) (sym begins) knows)) kept
    (back_at_start b start now frame first marked begins is stays done undone))

-- of a command on neither
pub ends_on_neither : {U : Type 0} (b start made now : List ℕ) (frame first marked end : Frame U) (known : Known) (vars : KnownVariables) (c : Command) → LeavesEntries c → is_on_variables c ≡ false → built c ≡ true → (done : Result Outcome AreaError)
    → IsOpen b frame known vars → start ≡ b → first ≡ with_base frame (Some b) → marked ≡ first → end ≡ with_base marked None
    → IfOk done (λ o. Answers first.limit start c o made) → OnOk done (now ≡ made) → OnErr done (marked.base ≡ Some now) → IsOpen now end known vars
ends_on_neither b start made now frame first marked end known vars c other not_variables there_is done was begins is stays ends answers kept undone =
    ends_on_own b start made now frame first marked end known vars c other there_is done was begins is stays ends answers
    (variables_after first.limit b start made c vars not_variables was.good was.knows_variables begins done answers) kept undone
