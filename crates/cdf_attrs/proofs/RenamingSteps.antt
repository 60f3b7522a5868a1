-- What the calls of a renaming come to.
use Rattle.cdf_attrs.proofs.Common.{Answers, AttributeShape, ByStep, Cut, DataSet, Done, Good, In, LiesIn, List, None, Refused, Renamed, Some, [], adr_name, adrs, ap, ap₂, arith, attribute_named, attribute_names, attribute_of, content, content_is, cut, false, fine_has_no_zeros, fine_is_short, get_or-append_seam, gone, good_is_sound, got-map, got-middle, has_name, image_limit, inl, inr, is_bad_name, last_to, length, length-map, map, map-append, name_reads, number_of, refl, refused, shape, slice_get, slice_index, slice_set, subst, sym, true, with_attribute, with_name, ℕ, ◌++◌, ◌<◌, ◌∙◌, ◌∷◌, ◌≡◌, ◌≤◌}
use Rattle.cdf_model.specs.declared.answer.Reason.TheVariants as reasons
use Rattle.cdf_model.specs.declared.answer.Reply.TheVariants as replies
use Rattle.cdf_model.specs.declared.command.Command.TheVariants as commands
use Rattle.cdf_edits.proofs.Edits.NameWritten.{name_filled, length-with_name, name_changed}
use Rattle.cdf_names.proofs.Moved.{last_moved}
use Rattle.cdf_attrs.proofs.NamesChanged.{none_named, number_within, named_there, some_named, renamed_names}
use Rattle.cdf_attrs.proofs.AttributeChain.{name_lies, few_attributes, names_count}
use Rattle.cdf_attrs.proofs.Renamed.{same_shape, content_now, rename_missing, rename_bad, rename_taken, rename_goes, rename_follows}

-- ---- the Name

pub name_written : (b : List ℕ) (place : ℕ) (to : List ℕ) → LiesIn b place adr_name → is_bad_name to ≡ false → Renamed b (with_name b place adr_name to) place to
name_written b place to lies fine =
    let short = fine_is_short to fine in
    record {
      name_is = name_reads b place adr_name to lies short (fine_has_no_zeros to fine);
      filled = name_filled b place adr_name to lies short;
      length_stays = length-with_name b place adr_name to lies short;
      changed = name_changed b place adr_name to lies short;
    }

-- ---- the reasons

module _ (b : List ℕ) (limit : ℕ) (names : List (List ℕ)) (from to : List ℕ) (names_are : names ≡ attribute_names (content b)) where
  pub answers_missing : number_of names from ≡ None → Answers limit b (commands.RenameAttr from to) (Refused reasons.NoSuchAttr) b
  answers_missing none = refused limit b (commands.RenameAttr from to) reasons.NoSuchAttr (ap ByStep (rename_missing (content b) from to (none_named (content b) names from names_are none)))

  pub answers_bad : (n : ℕ) → number_of names from ≡ Some n → is_bad_name to ≡ true → Answers limit b (commands.RenameAttr from to) (Refused reasons.BadName) b
  answers_bad n found bad = let a = some_named (content b) names from n names_are found in refused limit b (commands.RenameAttr from to) reasons.BadName (ap ByStep (rename_bad (content b) from to n a.0 a.1 bad))

  pub answers_taken : (n : ℕ) → number_of names from ≡ Some n → is_bad_name to ≡ false → has_name names to ≡ true → Answers limit b (commands.RenameAttr from to) (Refused reasons.NameTaken) b
  answers_taken n found fine taken =
      let a = some_named (content b) names from n names_are found in
      refused limit b (commands.RenameAttr from to) reasons.NameTaken (ap ByStep (rename_taken (content b) from to n a.0 a.1 fine (ap (λ (xs : List (List ℕ)). has_name xs to) (sym names_are) ∙ taken)))

  -- ---- a renaming that is done

  -- the attribute that has a number
  pub number_is_adr : Good b → (n : ℕ) → n < length names → n < length (adrs (shape b))
  number_is_adr good n lt = let e = names_count b (shape b) (good_is_sound b good).has_shape names names_are in omega arith

  -- there is room for one name more
  pub few_names : Good b → length b ≤ limit → limit ≤ image_limit → length names < 4294967295
  few_names good fits limited =
      let h = (good_is_sound b good).has_shape in
      let e = names_count b (shape b) h names names_are in
      let few = few_attributes b (shape b) h in
      omega arith

  module _ (n : ℕ) (now : List ℕ) (good : Good b) (fits : length b ≤ limit) (short : length b ≤ image_limit) (found : number_of names from ≡ Some n) (fine : is_bad_name to ≡ false) (absent : has_name names to ≡ false)
      (place : ℕ) (placed : place ≡ slice_index (adrs (shape b)) n) (written : now ≡ with_name b place adr_name to) where
    within : n < length names
    within = number_within names from n found

    parts : Cut (shape b).attributes n
    parts = cut (shape b).attributes n (let l = number_is_adr good n within in omega (arith, length-map (shape b).attributes (λ (a : AttributeShape). a.adr)))

    here : place ≡ parts.own.adr
    here =
        let adr = λ (a : AttributeShape). a.adr in
        placed ∙ ap₂ (λ (as_ : List AttributeShape) (k : ℕ). slice_index (map adr as_) k) parts.is (sym parts.count ∙ sym (length-map parts.before adr))
        ∙ ap (λ (xs : List ℕ). slice_index xs (length (map adr parts.before))) (map-append adr parts.before (parts.own ∷ parts.after)) ∙ get_or-append_seam (map adr parts.before) parts.own.adr (map adr parts.after) 0

    this : Renamed b now parts.own.adr to
    this =
        let lies = name_lies b (shape b) (good_is_sound b good).has_shape b parts.own.adr (subst (λ (as_ : List AttributeShape). In parts.own.adr (map (λ (a : AttributeShape). a.adr) as_)) (sym parts.is) (in_middle parts.before parts.own parts.after)) refl in
        subst (λ (x : List ℕ). Renamed b x parts.own.adr to) (sym (written ∙ ap (λ (x : ℕ). with_name b x adr_name to) here)) (name_written b parts.own.adr to lies fine)
      where
        in_middle : (xs : List AttributeShape) (a : AttributeShape) (ys : List AttributeShape) → In a.adr (map (λ (a : AttributeShape). a.adr) (xs ++ a ∷ ys))
        in_middle [] a ys = inl refl
        in_middle (x ∷ xs) a ys = inr (in_middle xs a ys)

    named : attribute_named (content b) from ≡ Some (length parts.before, attribute_of b parts.own)
    named =
        let there : slice_get (map (attribute_of b) (shape b).attributes) n ≡ Some (attribute_of b parts.own) =
        ap₂ (λ (as_ : List AttributeShape) (k : ℕ). slice_get (map (attribute_of b) as_) k) parts.is (sym parts.count) ∙ got-map (attribute_of b) (parts.before ++ parts.own ∷ parts.after) (length parts.before) parts.own (got-middle parts.before parts.own parts.after) in
        let whole : slice_get (content b).attributes n ≡ Some (attribute_of b parts.own) = ap (λ (d : DataSet). slice_get d.attributes n) (content_is b (shape b) (good_is_sound b good).has_shape) ∙ there in
        named_there (content b) names from n (attribute_of b parts.own) names_are found whole ∙ ap (λ (k : ℕ). Some (k, attribute_of b parts.own)) (sym parts.count)

    free : has_name (attribute_names (content b)) to ≡ false
    free = ap (λ (xs : List (List ℕ)). has_name xs to) (sym names_are) ∙ absent

    pub answers_done : Answers limit b (commands.RenameAttr from to) (Done replies.Plain) now
    answers_done =
        let d = with_attribute (content b) (length parts.before) (record (attribute_of b parts.own) { name = to }) in
        gone limit b (commands.RenameAttr from to) d replies.Plain now (ap ByStep (rename_goes (content b) from to (length parts.before) (attribute_of b parts.own) named fine free)) (omega arith)
        (rename_follows b now from to good parts.before parts.own parts.after parts.is this short named fine free)

    pub names_done : last_to (names ++ to ∷ []) n ≡ attribute_names (content now)
    names_done =
        let made = content_now b now from to good parts.before parts.own parts.after parts.is this in
        last_moved names to n within
        ∙ ap₂ (λ (xs : List (List ℕ)) (k : ℕ). slice_set xs k to) names_are (sym parts.count)
        ∙ sym (renamed_names (content b) (length parts.before) (attribute_of b parts.own) to)
        ∙ ap attribute_names (sym made)

    pub places_done : adrs (shape b) ≡ adrs (shape now)
    places_done = ap adrs (sym (same_shape b now from to good parts.before parts.own parts.after parts.is this))
