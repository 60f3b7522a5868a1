-- What was written and what is gathered of a text.
use Rattle.cdf_tool.proofs.Common.{Appends, Appends-nil, Appends-trans, AppendsFront, Err, Gathers, List, Ok, Option, Result, [], ap, append-nil, append_assoc, subst, sym, ℕ, ◌++◌, ◌∙◌, ◌≡◌}
use Rattle.std.specs.Prelude.{OnOk}
use Rattle.cdf_store.proofs.Fronts.{front_after}

-- all was written
pub gathers_none : (was half now : Option (List ℕ)) (held reply none held' : List ℕ) → Appends was half held → none ≡ [] → held' ≡ none → Appends half now reply → Gathers was (held ++ reply) now held'
gathers_none was half now held reply none held' writes empty is more =
    (held ++ reply, ap (λ l. (held ++ reply) ++ l) (is ∙ empty) ∙ append-nil (held ++ reply), Appends-trans was half now held reply writes more)

pub gathers_none_if : {T E : Type 0} (was half now : Option (List ℕ)) (held reply same none held' : List ℕ) → same ≡ held → Appends was half same → none ≡ [] → held' ≡ none → (r : Result T E) → OnOk r (Appends half now reply) → OnOk r (Gathers was (held ++ reply) now held')
gathers_none_if was half now held reply same none held' is writes empty stays (Ok x) more = gathers_none was half now held reply none held' (subst (λ l. Appends was half l) is writes) empty stays more
gathers_none_if was half now held reply same none held' is writes empty stays (Err e) more = tt

-- a text was written whole, and nothing is gathered
pub gathers_all : (was now : Option (List ℕ)) (text none : List ℕ) → none ≡ [] → Appends was now text → Gathers was text now none
gathers_all was now text none empty writes = (text, ap (λ l. text ++ l) empty ∙ append-nil text, writes)

-- nothing is gathered at first
pub gathers_nothing : (was : Option (List ℕ)) (held : List ℕ) → held ≡ [] → Gathers was [] was held
gathers_nothing was held empty = ([], empty, Appends-nil was)

module _ (was now : Option (List ℕ)) (text held : List ℕ) (g : Gathers was text now held) where
  joined : (reply : List ℕ) → g.0 ++ (held ++ reply) ≡ text ++ reply
  joined reply = sym (append_assoc g.0 held reply) ∙ ap (λ l. l ++ reply) g.1

  -- one more reply was taken
  pub gathers_more : (after : Option (List ℕ)) (reply held' : List ℕ) → Gathers now (held ++ reply) after held' → Gathers was (text ++ reply) after held'
  gathers_more after reply held' (front, is, writes) =
      (g.0 ++ front, append_assoc g.0 front held' ∙ ap (λ l. g.0 ++ l) is ∙ joined reply, Appends-trans was now after g.0 front g.2 writes)

  -- or a part of it
  pub gathered_in_part : (after : Option (List ℕ)) (reply : List ℕ) → AppendsFront now after (held ++ reply) → AppendsFront was after (text ++ reply)
  gathered_in_part after reply part = subst (λ l. AppendsFront was after l) (joined reply) (front_after was now after g.0 (held ++ reply) g.2 part)

  -- what was gathered was written
  pub gathered_written : (after : Option (List ℕ)) → Appends now after held → Appends was after text
  gathered_written after writes = subst (λ l. Appends was after l) g.1 (Appends-trans was now after g.0 held g.2 writes)

  -- or a part of it
  pub gathered_cut : (after : Option (List ℕ)) → AppendsFront now after held → AppendsFront was after text
  gathered_cut after part = subst (λ l. AppendsFront was after l) g.1 (front_after was now after g.0 held g.2 part)

  -- and one more reply
  pub gathered_whole : (after : Option (List ℕ)) (reply : List ℕ) → Appends now after (held ++ reply) → Appends was after (text ++ reply)
  gathered_whole after reply writes = subst (λ l. Appends was after l) (joined reply) (Appends-trans was now after g.0 (held ++ reply) g.2 writes)
