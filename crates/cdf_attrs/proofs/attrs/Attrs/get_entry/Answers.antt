use Rattle.cdf_attrs.proofs.Common.{Answers, Done, Finds, GetEntry, Good, KnowsEntries, List, NoSuchEntry, Refused, ap, arith, cdr_room, entry_bytes, entry_of, entry_reply, good_is_sound, length, subst, sym, ℕ, ◌+◌, ◌∙◌, ◌≤◌}
use Rattle.cdf_attrs.proofs.GettingAnswers.{entry_fits, is_missing, is_shown, kept_with, of_attribute, refused_for, still_known}
use Rattle.cdf_attrs.proofs.attrs.Attrs.get_entry.Goals as goal

pub returns-in-Refused-clause-answers : goal.returns-in-Refused-clause-answers
returns-in-Refused-clause-answers g c =
    let b = g.A.Area.image c.args.area.now in
    let limit = (g.A.Area.frame c.args.area.now).limit in
    let refused = refused_for limit b c.args.attr.now c.args.kind c.args.num c.in-Refused.reason (subst (Finds b c.args.attr.now c.args.kind) c.in-Refused.is c.in_ok-chain.ensures.target) in
    subst (λ (x : List ℕ). Answers limit b (GetEntry c.args.attr.now c.args.kind c.args.num) (Refused c.in-Refused.reason) x) (sym c.find_chain.ensures.area.image) refused

pub take_entries-requires-clause-good : goal.take_entries-requires-clause-good
take_entries-requires-clause-good g c = subst Good (sym c.find_chain.ensures.area.image) c.requires.good

pub returns-in_default-clause-answers : goal.returns-in_default-clause-answers
returns-in_default-clause-answers g c =
    let b = g.A.Area.image c.args.area.now in
    let limit = (g.A.Area.frame c.args.area.now).limit in
    let found = subst (Finds b c.args.attr.now c.args.kind) c.in-Found.is c.in_ok-chain.ensures.target in
    let knows = subst (λ (x : List ℕ). KnowsEntries x c.in_ok-entries.entries) c.find_chain.ensures.area.image c.in_ok-entries.ensures.entries in
    let missing = is_missing limit b c.args.attr.now c.args.kind c.args.num c.requires.good found c.in_ok-entries.entries c.in_ok-entries.ensures.chain knows (sym c.in_default.is ∙ c.place_of-place.ensures) in
    subst (λ (x : List ℕ). Answers limit b (GetEntry c.args.attr.now c.args.kind c.args.num) (Refused NoSuchEntry) x) (sym (c.take_entries.ensures.area.image ∙ c.find_chain.ensures.area.image)) missing

pub read_entry-requires-clause-cdr : goal.read_entry-requires-clause-cdr
read_entry-requires-clause-cdr g c =
    let b = g.A.Area.image c.args.area.now in
    let room = cdr_room b (good_is_sound b c.requires.good) in
    let long = ap (λ (x : List ℕ). length x) (c.take_entries.ensures.area.image ∙ c.find_chain.ensures.area.image) in
    omega arith

pub read_entry-requires-clause-entry : goal.read_entry-requires-clause-entry
read_entry-requires-clause-entry g c =
    let b = g.A.Area.image c.args.area.now in
    let found = subst (Finds b c.args.attr.now c.args.kind) c.in-Found.is c.in_ok-chain.ensures.target in
    let knows = subst (λ (x : List ℕ). KnowsEntries x c.in_ok-entries.entries) c.find_chain.ensures.area.image c.in_ok-entries.ensures.entries in
    let fits = entry_fits c.requires.good found c.in_ok-entries.entries c.in_ok-entries.ensures.chain knows c.args.num c.in-Some.place (sym c.in-Some.is ∙ c.place_of-place.ensures) in
    subst (λ (x : List ℕ). c.in-Some.place + (56 + entry_bytes x c.in-Some.place) ≤ length x) (sym (c.take_entries.ensures.area.image ∙ c.find_chain.ensures.area.image)) fits

pub returns-clause-answers : goal.returns-clause-answers
returns-clause-answers g c =
    let b = g.A.Area.image c.args.area.now in
    let limit = (g.A.Area.frame c.args.area.now).limit in
    let found = subst (Finds b c.args.attr.now c.args.kind) c.in-Found.is c.in_ok-chain.ensures.target in
    let knows = subst (λ (x : List ℕ). KnowsEntries x c.in_ok-entries.entries) c.find_chain.ensures.area.image c.in_ok-entries.ensures.entries in
    let same = c.take_entries.ensures.area.image ∙ c.find_chain.ensures.area.image in
    let reply = c.in_ok-reply.ensures.reply ∙ ap (λ (x : List ℕ). entry_reply (entry_of x c.in-Some.place)) same in
    let shown = is_shown limit b c.args.attr.now c.args.kind c.args.num c.requires.good found c.in_ok-entries.entries c.in_ok-entries.ensures.chain knows c.requires.fits c.in-Some.place (sym c.in-Some.is ∙ c.place_of-place.ensures) c.in_ok-reply.reply reply in
    subst (λ (x : List ℕ). Answers limit b (GetEntry c.args.attr.now c.args.kind c.args.num) (Done c.in_ok-reply.reply) x) (sym (c.read_entry.ensures.area.image ∙ same)) shown

pub returns-in_default-clause-known : goal.returns-in_default-clause-known
returns-in_default-clause-known g c =
    let found = subst (Finds (g.A.Area.image c.args.area.now) c.args.attr.now c.args.kind) c.in-Found.is c.in_ok-chain.ensures.target in
    still_known (c.take_entries.ensures.area.image ∙ c.find_chain.ensures.area.image) (kept_with c.find_chain.ensures.area.image c.take_entries.ensures.known c.self.view_is (of_attribute found) c.in_ok-entries.entries c.in_ok-entries.ensures.chain c.in_ok-entries.ensures.entries _ c.keep_chain.ensures)

pub returns-in_err-reply-clause-known : goal.returns-in_err-reply-clause-known
returns-in_err-reply-clause-known g c =
    let found = subst (Finds (g.A.Area.image c.args.area.now) c.args.attr.now c.args.kind) c.in-Found.is c.in_ok-chain.ensures.target in
    still_known (c.read_entry.ensures.area.image ∙ c.take_entries.ensures.area.image ∙ c.find_chain.ensures.area.image) (kept_with c.find_chain.ensures.area.image c.take_entries.ensures.known c.self.view_is (of_attribute found) c.in_ok-entries.entries c.in_ok-entries.ensures.chain c.in_ok-entries.ensures.entries _ c.keep_chain.ensures)

pub returns-clause-known : goal.returns-clause-known
returns-clause-known g c =
    let found = subst (Finds (g.A.Area.image c.args.area.now) c.args.attr.now c.args.kind) c.in-Found.is c.in_ok-chain.ensures.target in
    still_known (c.read_entry.ensures.area.image ∙ c.take_entries.ensures.area.image ∙ c.find_chain.ensures.area.image) (kept_with c.find_chain.ensures.area.image c.take_entries.ensures.known c.self.view_is (of_attribute found) c.in_ok-entries.entries c.in_ok-entries.ensures.chain c.in_ok-entries.ensures.entries _ c.keep_chain.ensures)
