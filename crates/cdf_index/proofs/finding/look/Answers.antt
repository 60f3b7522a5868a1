use Rattle.cdf_index.proofs.Common.{sym, ◌∙◌}
use Rattle.cdf_index.proofs.Looking.{look_next, look_tells}
use Rattle.cdf_index.proofs.finding.look.Goals as goal

pub returns-then-i-head-clause-told : goal.returns-then-i-head-clause-told
returns-then-i-head-clause-told g c =
    let h = c.requires.head in
    λ nodes turn a. look_next a c.requires.inside c.in_ok-i.ensures.scanned c.args.head.now.next (c.if-i-head.true ∙ h.used_is) h.next_is

pub returns-then-rec-entry-clause-told : goal.returns-then-rec-entry-clause-told
returns-then-rec-entry-clause-told g c =
    let says = rw c.in_ok-i.ensures.area.image at c.in_ok-entry.ensures.value in
    λ nodes turn a. (look_tells a c.requires.inside c.in_ok-i.ensures.scanned _ _ _ (λ z. c.if-i-head.false (z ∙ sym c.requires.head.used_is)) says).nothing c.if-rec-entry.true

pub returns-then-kind-eq-VXR_TYPE-clause-told : goal.returns-then-kind-eq-VXR_TYPE-clause-told
returns-then-kind-eq-VXR_TYPE-clause-told g c =
    let says = rw c.in_ok-i.ensures.area.image at c.in_ok-entry.ensures.value in
    let kind = rw (c.in_ok-entry.ensures.area.image, c.in_ok-i.ensures.area.image) at c.in_ok-kind.ensures.value in
    λ nodes turn a. (look_tells a c.requires.inside c.in_ok-i.ensures.scanned _ _ _ (λ z. c.if-i-head.false (z ∙ sym c.requires.head.used_is)) says).below c.if-rec-entry.false (sym kind ∙ c.if-kind-eq-VXR_TYPE.true)

pub returns-clause-told : goal.returns-clause-told
returns-clause-told g c =
    let says = rw c.in_ok-i.ensures.area.image at c.in_ok-entry.ensures.value in
    let kind = rw (c.in_ok-entry.ensures.area.image, c.in_ok-i.ensures.area.image) at c.in_ok-kind.ensures.value in
    λ nodes turn a. rw kind ((look_tells a c.requires.inside c.in_ok-i.ensures.scanned _ _ _ (λ z. c.if-i-head.false (z ∙ sym c.requires.head.used_is)) says).found c.if-rec-entry.false (λ z. c.if-kind-eq-VXR_TYPE.false (kind ∙ z)))
