-- A label among those in memory.
use Rattle.std.proofs.Common.{◌≡◌, ℕ, Bool, true, false, cond, List, [], ◌∷◌, ◌++◌, map, Option, Some, None, option_map, refl, sym, ap, ◌∙◌, Vec, Global}
use Rattle.std.specs.Map.{lookup}
use Rattle.std.specs.Option.{is_some}
use Rattle.std.specs.Str.{bytes_eq}
use Rattle.indexmap.specs.IndexMap.{insert_entry}
use Rattle.class_asm.specs.declared.labels.Place.{Place}
use Rattle.class_asm.specs.Layout.{Setting, setting_of, first_set}
use Rattle.class_asm.specs.Labelled.{setting_at, setting_in, place_in}

found_first : (v : Bool) (entry : Vec ℕ Global × Place) (more : Option Place) (settings : Option Setting) → more ≡ option_map place_in settings
    → cond v (Some entry.1) more ≡ option_map place_in (cond v (Some (setting_in entry)) settings)
found_first true entry more settings h = refl
found_first false entry more settings h = h

pub found : (entries : List (Vec ℕ Global × Place)) (name : List ℕ) → lookup (λ key. bytes_eq name key.items) entries ≡ option_map place_in (setting_of (map setting_in entries) name)
found [] name = refl
found (entry ∷ more) name = found_first (bytes_eq name entry.0.items) entry _ _ (found more name)

abbrev pub inserted : List (Vec ℕ Global × Place) → Vec ℕ Global → Place → List (Vec ℕ Global × Place)
inserted entries key place = insert_entry (λ k other. bytes_eq k.items other.items) entries key place

one_more : (v : Bool) (entry : Vec ℕ Global × Place) (key : Vec ℕ Global) (place : Place) (entries : List (Vec ℕ Global × Place)) (settings : Option Setting)
    → (settings ≡ None → map setting_in (inserted entries key place) ≡ map setting_in entries ++ setting_at key.items place ∷ [])
    → cond v (Some (setting_in entry)) settings ≡ None
    → map setting_in (cond v ((entry.0, place) ∷ entries) (entry ∷ inserted entries key place)) ≡ setting_in entry ∷ (map setting_in entries ++ setting_at key.items place ∷ [])
one_more true entry key place entries settings more h = absurd (cc)
one_more false entry key place entries settings more h = ap (λ t. setting_in entry ∷ t) (more h)

added : (entries : List (Vec ℕ Global × Place)) (key : Vec ℕ Global) (place : Place) → setting_of (map setting_in entries) key.items ≡ None
    → map setting_in (inserted entries key place) ≡ map setting_in entries ++ setting_at key.items place ∷ []
added [] key place h = refl
added (entry ∷ more) key place h = one_more (bytes_eq key.items entry.0.items) entry key place more (setting_of (map setting_in more) key.items) (added more key place) h

-- a label that isn't there yet
pub set_new : (entries : List (Vec ℕ Global × Place)) (key : Vec ℕ Global) (place : Place) (name : List ℕ) (settings : List Setting) → map setting_in entries ≡ settings → key.items ≡ name → setting_of settings name ≡ None
    → map setting_in (inserted entries key place) ≡ first_set settings (setting_at name place) (setting_of settings name)
set_new entries key place name settings same is none =
    let fact : setting_of (map setting_in entries) key.items ≡ None = ap (λ s. setting_of s key.items) same ∙ ap (setting_of settings) is ∙ none in
    rw none (added entries key place fact ∙ ap (λ s. s ++ setting_at key.items place ∷ []) same ∙ ap (λ n. settings ++ setting_at n place ∷ []) is)

pub nothing_found : (setting : Option Setting) (place : Option Place) (test : Bool) → place ≡ option_map place_in setting → test ≡ is_some place → test ≡ false → setting ≡ None
nothing_found None place test a b c = refl
nothing_found (Some s) place test a b c =
    let there : test ≡ true = b ∙ ap is_some a in
    let other : true ≡ false = sym there ∙ c in
    absurd (cc)
