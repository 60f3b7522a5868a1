use Rattle.cdf_attrs.proofs.Common.{Answers, DelEntry, Finds, Good, Known, KnownEntries, Knows, KnowsEntries, List, NoSuchEntry, Refused, ap, arith, entries_chain, image_limit, length, subst, sym, ℕ, ◌∙◌, ◌≤◌}
use Rattle.cdf_attrs.proofs.AttributeFound.{adr_is, place_within}
use Rattle.cdf_attrs.proofs.EntryDeleted.{refused_for, is_missing, there_in, taken_in, within, entry_there, is_deleted, del_leaves, left_known, names_stay, places_stay}
use Rattle.cdf_attrs.proofs.GettingAnswers.{kept_with, of_attribute, still_known}
use Rattle.cdf_attrs.proofs.KnownAttributes.{of_one, one_changed, places_known}
use Rattle.cdf_attrs.proofs.Failing.{on_err}
use Rattle.cdf_attrs.proofs.attrs.Attrs.del_entry.Goals as goal

pub returns-in-Refused-clause-answers : goal.returns-in-Refused-clause-answers
returns-in-Refused-clause-answers g c =
    let b = g.A.Area.image c.args.area.now in
    let limit = (g.A.Area.frame c.args.area.now).limit in
    let refused = refused_for limit b c.args.attr.now c.args.kind c.args.num c.in-Refused.reason (subst (Finds b c.args.attr.now c.args.kind) c.in-Refused.is c.in_ok-number.ensures.target) in
    subst (λ (x : List ℕ). Answers limit b (DelEntry c.args.attr.now c.args.kind c.args.num) (Refused c.in-Refused.reason) x) (sym c.find_chain.ensures.area.image) refused

pub take_entries-requires-clause-good : goal.take_entries-requires-clause-good
take_entries-requires-clause-good g c = subst Good (sym c.find_chain.ensures.area.image) c.requires.good

pub returns-in_default-clause-answers : goal.returns-in_default-clause-answers
returns-in_default-clause-answers g c =
    let b = g.A.Area.image c.args.area.now in
    let limit = (g.A.Area.frame c.args.area.now).limit in
    let found = subst (Finds b c.args.attr.now c.args.kind) c.in-Found.is c.in_ok-number.ensures.target in
    let knows = subst (λ (x : List ℕ). KnowsEntries x c.in_ok-entries.entries) c.find_chain.ensures.area.image c.in_ok-entries.ensures.entries in
    let missing = is_missing limit b c.args.attr.now c.args.kind c.args.num c.requires.good found c.in_ok-entries.entries c.in_ok-entries.ensures.chain knows (sym c.find.ensures ∙ c.in_default.is) in
    subst (λ (x : List ℕ). Answers limit b (DelEntry c.args.attr.now c.args.kind c.args.num) (Refused NoSuchEntry) x) (sym (c.take_entries.ensures.area.image ∙ c.find_chain.ensures.area.image)) missing

pub bounds-places-number : goal.bounds-places-number
bounds-places-number g c =
    let found = subst (Finds (g.A.Area.image c.args.area.now) c.args.attr.now c.args.kind) c.in-Found.is c.in_ok-number.ensures.target in
    place_within found c.as_slice-places.result.now (c.as_slice-places.ensures.value ∙ ap (λ (k : Known). k.places) (c.self.view_is ∙ c.take_entries.ensures.given) ∙ c.requires.known.places_are)

pub remove_at-requires-clause-good : goal.remove_at-requires-clause-good
remove_at-requires-clause-good g c = subst Good (sym (c.take_entries.ensures.area.image ∙ c.find_chain.ensures.area.image)) c.requires.good

pub remove_at-requires-clause-chain : goal.remove_at-requires-clause-chain
remove_at-requires-clause-chain g c =
    let found = subst (Finds (g.A.Area.image c.args.area.now) c.args.attr.now c.args.kind) c.in-Found.is c.in_ok-number.ensures.target in
    let adr = adr_is found c.as_slice-places.result.now (c.as_slice-places.ensures.value ∙ ap (λ (k : Known). k.places) (c.self.view_is ∙ c.take_entries.ensures.given) ∙ c.requires.known.places_are) in
    c.in_ok-entries.ensures.chain ∙ found.chain_is ∙ ap (entries_chain c.args.kind) (sym adr)

pub remove_at-requires-clause-within : goal.remove_at-requires-clause-within
remove_at-requires-clause-within g c =
    let b = g.A.Area.image c.args.area.now in
    let found = subst (Finds b c.args.attr.now c.args.kind) c.in-Found.is c.in_ok-number.ensures.target in
    let knows = subst (λ (x : List ℕ). KnowsEntries x c.in_ok-entries.entries) c.find_chain.ensures.area.image c.in_ok-entries.ensures.entries in
    within c.requires.good (of_attribute found) c.in_ok-entries.entries c.in_ok-entries.ensures.chain knows c.args.num c.in-Some.i (sym c.find.ensures ∙ c.in-Some.is)

pub remove_at-requires-clause-entry : goal.remove_at-requires-clause-entry
remove_at-requires-clause-entry g c =
    let b = g.A.Area.image c.args.area.now in
    let found = subst (Finds b c.args.attr.now c.args.kind) c.in-Found.is c.in_ok-number.ensures.target in
    let knows = subst (λ (x : List ℕ). KnowsEntries x c.in_ok-entries.entries) c.find_chain.ensures.area.image c.in_ok-entries.ensures.entries in
    let adr = adr_is found c.as_slice-places.result.now (c.as_slice-places.ensures.value ∙ ap (λ (k : Known). k.places) (c.self.view_is ∙ c.take_entries.ensures.given) ∙ c.requires.known.places_are) in
    there_in b (g.A.Area.image c.take_entries.new.area) (c.take_entries.ensures.area.image ∙ c.find_chain.ensures.area.image) adr
    (entry_there c.requires.good (of_attribute found) c.in_ok-entries.entries c.in_ok-entries.ensures.chain knows c.args.num c.in-Some.i (sym c.find.ensures ∙ c.in-Some.is))

pub returns-clause-answers : goal.returns-clause-answers
returns-clause-answers g c =
    let b = g.A.Area.image c.args.area.now in
    let found = subst (Finds b c.args.attr.now c.args.kind) c.in-Found.is c.in_ok-number.ensures.target in
    let knows = subst (λ (x : List ℕ). KnowsEntries x c.in_ok-entries.entries) c.find_chain.ensures.area.image c.in_ok-entries.ensures.entries in
    let adr = adr_is found c.as_slice-places.result.now (c.as_slice-places.ensures.value ∙ ap (λ (k : Known). k.places) (c.self.view_is ∙ c.take_entries.ensures.given) ∙ c.requires.known.places_are) in
    let taken = taken_in b (g.A.Area.image c.take_entries.new.area) (c.take_entries.ensures.area.image ∙ c.find_chain.ensures.area.image) adr c.in_ok-left.ensures.removed in
    is_deleted c.requires.good found c.in_ok-entries.entries c.in_ok-entries.ensures.chain knows c.args.num c.in-Some.i (sym c.find.ensures ∙ c.in-Some.is) taken (omega (arith, c.requires.fits, c.requires.limit)) (g.A.Area.frame c.args.area.now).limit c.requires.fits

pub returns-clause-known : goal.returns-clause-known
returns-clause-known g c =
    let b = g.A.Area.image c.args.area.now in
    let found = subst (Finds b c.args.attr.now c.args.kind) c.in-Found.is c.in_ok-number.ensures.target in
    let of = of_attribute found in
    let knows = subst (λ (x : List ℕ). KnowsEntries x c.in_ok-entries.entries) c.find_chain.ensures.area.image c.in_ok-entries.ensures.entries in
    let known = c.self.view_is ∙ c.take_entries.ensures.given in
    let adr = adr_is found c.as_slice-places.result.now (c.as_slice-places.ensures.value ∙ ap (λ (k : Known). k.places) known ∙ c.requires.known.places_are) in
    let taken = taken_in b (g.A.Area.image c.take_entries.new.area) (c.take_entries.ensures.area.image ∙ c.find_chain.ensures.area.image) adr c.in_ok-left.ensures.removed in
    let short : length b ≤ image_limit = omega (arith, c.requires.fits, c.requires.limit) in
    let at = sym c.find.ensures ∙ c.in-Some.is in
    let before = subst (λ (x : List ℕ). Knows x c.take_entries.new.self) c.find_chain.ensures.area.image c.take_entries.ensures.known in
    let left = left_known c.requires.good of c.in_ok-entries.entries c.in_ok-entries.ensures.chain knows c.args.num c.in-Some.i at taken short in
    one_changed c.in-Found.chain before c.self.view_is (ap (λ (k : Known). k.order) c.take_entries.ensures.given) (names_stay c.requires.good of c.in_ok-entries.entries c.in_ok-entries.ensures.chain knows c.args.num c.in-Some.i at taken short) (places_stay c.requires.good of c.in_ok-entries.entries c.in_ok-entries.ensures.chain knows c.args.num c.in-Some.i at taken short)
    c.take_entries.ensures.others (del_leaves c.requires.good found c.in_ok-entries.entries c.in_ok-entries.ensures.chain knows c.args.num c.in-Some.i at taken short)
    c.in_ok-left.left _ (of_one (places_known before c.self.view_is) of (ap (λ (e : KnownEntries). e.chain) c.in_ok-left.ensures.left ∙ c.in_ok-entries.ensures.chain)) (subst (KnowsEntries _) (sym c.in_ok-left.ensures.left) left) c.keep_chain-2.ensures

pub returns-in_default-clause-known : goal.returns-in_default-clause-known
returns-in_default-clause-known g c =
    let found = subst (Finds (g.A.Area.image c.args.area.now) c.args.attr.now c.args.kind) c.in-Found.is c.in_ok-number.ensures.target in
    still_known (c.take_entries.ensures.area.image ∙ c.find_chain.ensures.area.image) (kept_with c.find_chain.ensures.area.image c.take_entries.ensures.known c.self.view_is (of_attribute found) c.in_ok-entries.entries c.in_ok-entries.ensures.chain c.in_ok-entries.ensures.entries _ c.keep_chain.ensures)

pub returns-in_err-left-clause-stays : goal.returns-in_err-left-clause-stays
returns-in_err-left-clause-stays g c = on_err _ (subst (λ (x : List ℕ). Knows x c.take_entries.new.self) c.find_chain.ensures.area.image c.take_entries.ensures.known)
