-- What calls leave of the log while it is laid, and of the file while it is filled.
use Rattle.std.proofs.Common.{List, None, Some, ap, arith, inl, inr, length, refl, subst, sym, take, ℕ, ◌++◌, ◌+◌, ◌<◌, ◌∙◌, ◌≡◌, ◌≤◌, ◌⊎◌, drop, slice_index, ◌-◌}
use Rattle.std.proofs.lemmas.Bool.{cases_eq, cases_lt}
use Rattle.std.proofs.lemmas.List.{get_or-drop, get_or-take, length-take, take-take, take_all}
use Rattle.std.proofs.Math.Seq.{take-add}
use Rattle.std.proofs.lemmas.Option.{same_Some}
use Rattle.std.specs.declared.option.Option.{Option}
use Rattle.std.specs.Prelude.{IfSome}
use Rattle.cdf_journal.specs.Crashes.{InPart, Parts, Shortened, Torn}
use Rattle.cdf_journal.specs.Log.{Body, Grown, PartlyFilled, is_within}
use Rattle.cdf_journal.specs.Stages.{IsLog, IsShutOrOpen, IsSmall, KeepsGate}
use Rattle.cdf_journal.specs.declared.disk.Part.TheVariants.{Log, Main}
use Rattle.cdf_journal.proofs.Journalled.{is_shut, says_open, torn_gate}

-- what holds of what is told
pub if_some : {A : Type 0} (o : Option A) (x : A) (P : A → Type 0) → o ≡ Some x → IfSome o P → P x
if_some o x P e h = subst (λ (p : Option _). IfSome p P) e h

-- what holds of each that may be told before holds of what is told behind
pub told_now : (old new : Option Parts) (f : Parts → Parts) (P : Parts → Type 0) → ((parts : Parts) → old ≡ Some parts → new ≡ Some (f parts)) → (old ≡ None → new ≡ None) → ((parts : Parts) → old ≡ Some parts → P (f parts)) → (x : Parts) → new ≡ Some x → P x
told_now None new f P some none holds x e = absurd (nothing (sym (none refl) ∙ e))
  where
    nothing : None ≡ Some x → ⊥
    nothing e = cc
told_now (Some parts) new f P some none holds x e = subst P (same_Some (f parts) x (sym (some parts refl) ∙ e)) (holds parts refl)

-- what holds of each that may be told
pub if_told : {A : Type 0} (o : Option A) (P : A → Type 0) → ((x : A) → o ≡ Some x → P x) → IfSome o P
if_told None P f = tt
if_told (Some x) P f = f x refl

-- ---- reading

pub read_on : (file xs ys zs : List ℕ) (n : ℕ) → xs ≡ take (length xs) file → zs ≡ xs ++ ys → ys ≡ take n (drop (length xs) file) → zs ≡ take (length zs) file
read_on file xs ys zs n before all next =
    let whole : zs ≡ take (length xs + n) file = all ∙ (λ i. before i ++ next i) ∙ sym (take-add (length xs) n file) in
    whole ∙ sym (ap (λ (k : ℕ). take k file) (ap length whole) ∙ least (length xs + n))
  where
    by : (m : ℕ) → (m < length file) ⊎ (length file ≤ m) → take (length (take m file)) file ≡ take m file
    by m (inl less) = let e : length (take m file) ≡ m = omega (arith, less, length-take m file) in ap (λ (k : ℕ). take k file) e
    by m (inr past) = let e : length (take m file) ≡ length file = omega (arith, past, length-take m file) in ap (λ (k : ℕ). take k file) e ∙ take_all (length file) file (omega arith) ∙ sym (take_all m file past)

    least : (m : ℕ) → take (length (take m file)) file ≡ take m file
    least m = by m (cases_lt m (length file))

-- ---- the log

pub gate_kept : (a b c : Parts) → KeepsGate a b → KeepsGate b c → KeepsGate a c
gate_kept a b c p q = (q.0 ∙ p.0, q.1 ∙ p.1)

pub gate_stays : (at n : ℕ) → 8 ≤ at → (b c : Parts) → InPart Log (Torn at n) b c → KeepsGate b c
gate_stays at n le b c t = (t.1, sym (take-take 8 at c.log le) ∙ ap (take 8) t.0.before ∙ take-take 8 at b.log le)

-- ---- the file

pub log_is_not_main : Log ≡ Main → ⊥
log_is_not_main e = cc

same_front : (n : ℕ) (c d : List ℕ) → take n c ≡ take n d → (i : ℕ) → i < n → slice_index c i ≡ slice_index d i
same_front n c d e i lt = sym (get_or-take n c i 0 lt) ∙ ap (λ (l : List ℕ). slice_index l i) e ∙ get_or-take n d i 0 lt

same_back : (n : ℕ) (c d : List ℕ) → drop n c ≡ drop n d → (i : ℕ) → n ≤ i → slice_index c i ≡ slice_index d i
same_back n c d e i le =
    let at : n + (i - n) ≡ i = omega arith in
    ap (slice_index c) (sym at) ∙ sym (get_or-drop n c (i - n) 0) ∙ ap (λ (l : List ℕ). slice_index l (i - n)) e ∙ get_or-drop n d (i - n) 0 ∙ ap (slice_index d) at

grown_more : (old d c : List ℕ) (body : Body) (place n : ℕ) → Grown body old d → ((i : ℕ) → place ≤ i → i < place + n → is_within i body.members) → place + n ≤ body.new_length → Torn place n d c → Grown body old c
grown_more old d c body place n g one end t = record {
  elsewhere = λ i inn none. by i inn none (cases_lt i place) (cases_lt i (place + n));
  longer = let a = g.longer in let n = t.no_shorter in omega arith;
  most = let a = g.most in let n = t.no_longer in omega (arith, a, n, end);
}
  where
    by : (i : ℕ) → i < length old → (is_within i body.members → ⊥) → (i < place) ⊎ (place ≤ i) → (i < place + n) ⊎ (place + n ≤ i) → slice_index c i ≡ slice_index old i
    by i inn none (inl before) r = same_front place c d t.before i before ∙ g.elsewhere i inn none
    by i inn none (inr le) (inl within) = absurd (none (one i le within))
    by i inn none (inr le) (inr past) = same_back (place + n) c d t.after i past ∙ g.elsewhere i inn none

pub main_grown : (body : Body) (place n : ℕ) → ((i : ℕ) → place ≤ i → i < place + n → is_within i body.members) → place + n ≤ body.new_length → (a b c : Parts) → InPart Main (Grown body) a b → InPart Main (Torn place n) b c → InPart Main (Grown body) a c
main_grown body place n one end a b c g t = (grown_more a.main b.main c.main body place n g.0 one end t.0, t.1 ∙ g.1)

pub not_grown : (body : Body) (c : Parts) → InPart Main (Grown body) c c
not_grown body c = (record { elsewhere = λ i inn none. refl; longer = omega arith; most = omega arith }, refl)

abbrev pub Fills : Body → Parts → Parts → Type 0
Fills body a b = (b.log ≡ a.log) × PartlyFilled a.main body b.main

pub as_filling : (body : Body) (a b : Parts) → InPart Main (Grown body) a b → Fills body a b
as_filling body a b g = (g.1, record { elsewhere = λ i inn there none. g.0.elsewhere i inn none; least = let l = g.0.longer in omega arith; most = g.0.most })

pub as_cut : (body : Body) (a b c : Parts) → InPart Main (Grown body) a b → InPart Main (Shortened body.new_length) b c → Fills body a c
as_cut body a b c g s = (
  s.1 ∙ g.1,
  record {
    elsewhere = λ i inn there none. ap (λ (l : List ℕ). slice_index l i) (sym s.0.front) ∙ get_or-take (length c.main) b.main i 0 there ∙ g.0.elsewhere i inn none;
    least = let n = s.0.no_shorter in let l = g.0.longer in omega arith;
    most = let m = g.0.most in omega (arith, m, ap length s.0.front, length-take (length c.main) b.main);
  },
)

pub as_synced : (body : Body) (a b c : Parts) → Fills body a b → c ≡ b → Fills body a c
as_synced body a b c f e = subst (Fills body a) (sym e) f

pub not_filled : (body : Body) (c : Parts) → Fills body c c
not_filled body c = as_filling body c c (not_grown body c)

-- ---- the gate

pub gate_torn : (main : List ℕ) (body : Body) (first : ℕ) (log : List ℕ) (c : Parts) → IsSmall body → IsLog body first log → InPart Log (Torn 0 1) (record { main = main; log = log }) c → IsShutOrOpen main body c
gate_torn main body first log c small has t =
    let now = torn_gate body first log c.log has t.0 in (
      t.1,
      elim (cases_eq now.0 1) [
        | inl one ↦ inr (says_open body c.log small (subst (λ (k : ℕ). IsLog body k c.log) one now.1))
        | inr other ↦ inl (is_shut body now.0 c.log now.1 (λ e. absurd (other e)))
      ],
    )
