use Rattle.cdf_attrs.proofs.Common.{ByStep, Known, ap, arith, image_limit, length, refused, to_z-of_z, ◌∙◌, ◌≤◌}
use Rattle.std.proofs.Common.{w32}
use Rattle.cdf_attrs.proofs.AttributeFound.{place_within}
use Rattle.cdf_attrs.proofs.GettingAnswers.{of_attribute}
use Rattle.cdf_attrs.proofs.KnownAttributes.{of_one, one_changed, places_known}
use Rattle.cdf_attrs.proofs.PutAnswers.{greatest_signed, greatest_within, put_done, put_leaves, put_ready, put_too_large}
use Rattle.cdf_attrs.proofs.Failing.{on_err}
use Rattle.cdf_attrs.proofs.attrs.Attrs.put_entry.Goals as goal

pub returns-in-Refused-clause-answers : goal.returns-in-Refused-clause-answers
returns-in-Refused-clause-answers g c = rw c.read_request.ensures.area.image (refused _ _ _ c.in-Refused.reason (ap ByStep (rw c.in-Refused.is at c.in_ok-number.ensures.request)))

pub returns-then-limit-size-clause-answers : goal.returns-then-limit-size-clause-answers
returns-then-limit-size-clause-answers g c =
    rw c.read_request.ensures.area.image (put_too_large _ (rw c.in-Put.is at c.in_ok-number.ensures.request) (grind (arith, c.requires.fits, c.read_request.ensures.area.image, c.read_request.ensures.area.frame, c.if-limit-size.true, c.limit.ensures, c.size.ensures, c.len.ensures)))

pub take_entries-requires-clause-good : goal.take_entries-requires-clause-good
take_entries-requires-clause-good g c = rw c.read_request.ensures.area.image c.requires.good

pub bounds-places-attribute : goal.bounds-places-attribute
bounds-places-attribute g c =
    place_within (rw c.in-Put.is at c.in_ok-number.ensures.request).found _ (c.as_slice-places.ensures.value ∙ ap (λ (k : Known). k.places) (c.self.view_is ∙ c.in_ok-entries.ensures.given) ∙ c.requires.known.places_are)

pub greatest_with-greatest-requires : goal.greatest_with-greatest-requires
greatest_with-greatest-requires g c =
    (greatest_within (rw c.in-Put.is at c.in_ok-number.ensures.request) c.requires.good (omega (arith, c.requires.fits, c.requires.limit)) (rw c.read_request.ensures.area.image at c.in_ok-entries.ensures.entries) c.in_ok-entries.ensures.chain)

pub put_new-requires : goal.put_new-requires
put_new-requires g c =
    let may = rw c.in-Put.is at c.in_ok-number.ensures.request in
    let places = c.as_slice-places.ensures.value ∙ ap (λ (k : Known). k.places) (c.self.view_is ∙ c.in_ok-entries.ensures.given) ∙ c.requires.known.places_are in
    let knows = rw c.read_request.ensures.area.image at c.in_ok-entries.ensures.entries in
    let is = c.greatest_with-greatest.ensures in
    let small : length (g.A.Area.image c.args.area.now) ≤ image_limit = omega (arith, c.requires.fits, c.requires.limit) in
    rw (c.take_entries.ensures.area.image, c.read_request.ensures.area.image, c.take_entries.ensures.area.frame, c.read_request.ensures.area.frame, to_z-of_z w32 c.greatest_with-greatest.result (greatest_signed may c.requires.good small knows c.in_ok-entries.ensures.chain is)) (record {
      good = c.requires.good;
      ready = put_ready may c.requires.good small knows c.in_ok-entries.ensures.chain is places c.requires.limit (grind (arith, c.requires.fits, c.read_request.ensures.area.image, c.read_request.ensures.area.frame, c.if-limit-size.false, c.limit.ensures, c.size.ensures, c.len.ensures));
    })

pub returns-clause-answers : goal.returns-clause-answers
returns-clause-answers g c =
    put_done _ (rw c.in-Put.is at c.in_ok-number.ensures.request) (grind (arith, c.requires.fits, c.read_request.ensures.area.image, c.read_request.ensures.area.frame, c.if-limit-size.false, c.limit.ensures, c.size.ensures, c.len.ensures)) (rw (c.take_entries.ensures.area.image, c.read_request.ensures.area.image) at c.in_ok-put.ensures.put.puts)

pub returns-clause-known : goal.returns-clause-known
returns-clause-known g c =
    let may = rw c.in-Put.is at c.in_ok-number.ensures.request in
    let put = rw (c.take_entries.ensures.area.image, c.read_request.ensures.area.image) at c.in_ok-put.ensures.put in
    let before = rw c.read_request.ensures.area.image at c.take_entries.ensures.known in
    one_changed c.in-Put.chain before c.self.view_is (ap (λ (k : Known). k.order) c.take_entries.ensures.given) put.puts.names_stay put.puts.places_stay
    c.take_entries.ensures.others (put_leaves 0 may c.requires.good put.puts) c.in_ok-put.put _
    (of_one (places_known before c.self.view_is) (of_attribute may.found) (put.chain_is ∙ c.in_ok-entries.ensures.chain)) put.knows c.keep_chain.ensures

pub returns-in_err-put-clause-stays : goal.returns-in_err-put-clause-stays
returns-in_err-put-clause-stays g c = on_err _ (rw c.read_request.ensures.area.image at c.take_entries.ensures.known)
