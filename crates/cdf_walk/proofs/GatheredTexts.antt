-- What was written and what is gathered of a text.
use Rattle.std.proofs.Common.{◌≡◌, ◌∙◌, ℕ, List, [], ◌++◌, Option, Result, Ok, Err, append-nil, append_assoc, ap, subst, sym}
use Rattle.std.proofs.KnownBytes.{Appends-nil, Appends-trans}
use Rattle.std.specs.Prelude.{OnOk}
use Rattle.std.specs.Io.KnownBytes.{Appends}
use Rattle.cdf_store.proofs.Fronts.{front_after}
use Rattle.cdf_store.specs.Written.{AppendsFront}
use Rattle.cdf_walk.specs.Gathering.{Gathers}

-- all was written
gathers_none : (was half now : Option (List ℕ)) (held text none held' : List ℕ) → Appends was half held → none ≡ [] → held' ≡ none → Appends half now text → Gathers was (held ++ text) now held'
gathers_none was half now held text none held' writes empty is more =
    (held ++ text, ap (λ l. (held ++ text) ++ l) (is ∙ empty) ∙ append-nil (held ++ text), Appends-trans was half now held text writes more)

pub gathers_none_if : {T E : Type 0} (was half now : Option (List ℕ)) (held text same none held' : List ℕ) → same ≡ held → Appends was half same → none ≡ [] → held' ≡ none → (r : Result T E) → OnOk r (Appends half now text) → OnOk r (Gathers was (held ++ text) now held')
gathers_none_if was half now held text same none held' is writes empty stays (Ok x) more = gathers_none was half now held text none held' (subst (λ l. Appends was half l) is writes) empty stays more
gathers_none_if was half now held text same none held' is writes empty stays (Err e) more = tt

-- nothing is gathered at first
pub gathers_nothing : (was : Option (List ℕ)) (held : List ℕ) → held ≡ [] → Gathers was [] was held
gathers_nothing was held empty = ([], empty, Appends-nil was)

module _ (was now : Option (List ℕ)) (text held : List ℕ) (g : Gathers was text now held) where
  joined : (more : List ℕ) → g.0 ++ (held ++ more) ≡ text ++ more
  joined more = sym (append_assoc g.0 held more) ∙ ap (λ l. l ++ more) g.1

  -- one more text was taken
  pub gathers_more : (after : Option (List ℕ)) (more held' : List ℕ) → Gathers now (held ++ more) after held' → Gathers was (text ++ more) after held'
  gathers_more after more held' (front, is, writes) =
      (g.0 ++ front, append_assoc g.0 front held' ∙ ap (λ l. g.0 ++ l) is ∙ joined more, Appends-trans was now after g.0 front g.2 writes)

  -- or a part of it
  pub gathered_in_part : (after : Option (List ℕ)) (more : List ℕ) → AppendsFront now after (held ++ more) → AppendsFront was after (text ++ more)
  gathered_in_part after more part = subst (λ l. AppendsFront was after l) (joined more) (front_after was now after g.0 (held ++ more) g.2 part)

  -- what was gathered was written
  pub gathered_written : (after : Option (List ℕ)) → Appends now after held → Appends was after text
  gathered_written after writes = subst (λ l. Appends was after l) g.1 (Appends-trans was now after g.0 held g.2 writes)

  -- or a part of it
  pub gathered_cut : (after : Option (List ℕ)) → AppendsFront now after held → AppendsFront was after text
  gathered_cut after part = subst (λ l. AppendsFront was after l) g.1 (front_after was now after g.0 held g.2 part)
