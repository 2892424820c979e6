-- The words as they were read: their count, the form of each, and then their bounds. Assumes nothing.
use Prim.Native.Nat.{ℕ, zero, suc}
use mathlib.Core.Path.{◌≡◌, refl, sym, ap, ◌∙◌}
use mathlib.Core.Logic.{◌≢◌, inl, inr}
use mathlib.Core.List.{List, [], ◌∷◌}
use mathlib.Core.Option.{Option, none, some}
use native.Mathlib.Omega.{arith}
use lib.ListN.{length}
use Rattle.model.specs.Groups as groups
use Rattle.model.specs.Calls.{refuse_settings}
use Rattle.model.specs.Text.{number_of}
use Rattle.model.specs.Program.{wrong, chosen, bounded, three, settings_of_words}
use Rattle.theory.proofs.Program.Program.{not_three}
use Rattle.number.proofs.Numbers.{number_empty, number-long}
use Rattle.std.specs.Prelude.{Result, Ok, Err, is_ok}
use Rattle.refusal.specs.declared.Refusal.{Refusal}
use Rattle.refusal.specs.declared.Refusal.TheVariants.{Form}
use Rattle.refusal.specs.Numbers.{number}
use Rattle.refusal.proofs.Handed.{number-some}
use Rattle.isolation.specs.declared.Settings.{Settings}
use Rattle.request.specs.declared.words.Arguments.{Arguments}
use Rattle.request.specs.Words.{words_of, WordsRead, Held, Handed, passes, TextWanted}

-- ---- what three words say

bounded-wrong : (k : ℕ) (s : groups.Settings) → k ≢ 0 → bounded k s ≡ wrong k
unfolding bounded
bounded-wrong zero s d = absurd (d refl)
bounded-wrong (suc k) s d = refl

bounded-chosen : (k : ℕ) (s : groups.Settings) → k ≡ 0 → bounded k s ≡ chosen s
unfolding bounded
bounded-chosen zero s e = refl
bounded-chosen (suc k) s e = absurd (omega arith)

-- three words, by their numbers
of_three : (a b c : List ℕ) → settings_of_words (a ∷ b ∷ c ∷ []) ≡ three (number_of a) (number_of b) (number_of c)
unfolding settings_of_words
of_three a b c = refl

no_first : (y z : Option ℕ) → three none y z ≡ wrong 32
unfolding three
no_first y z = refl

no_second : (k : ℕ) (z : Option ℕ) → three (some k) none z ≡ wrong 32
unfolding three
no_second k z = refl

no_third : (k l : ℕ) → three (some k) (some l) none ≡ wrong 32
unfolding three
no_third k l = refl

all_three : (s : groups.Settings) → three (some s.notion) (some s.kind) (some s.factor) ≡ bounded (refuse_settings s) s
unfolding three
all_three s = refl

module _ (w : Arguments) where
  -- the words are not three
  pub read_count : w.count ≢ 3 → WordsRead w (Err Form)
  read_count d = record { says = λ words e h. sym (not_three words (λ z. d (sym e ∙ z))); proper = tt }

  module _ (h : w.count ≡ 3) where
    said : {x y z : Option ℕ} → x ≡ number_of w.first.now → y ≡ number_of w.second.now → z ≡ number_of w.third.now → (words : List (List ℕ))
        → (w.count ≡ 3 → words ≡ w.first.now ∷ w.second.now ∷ w.third.now ∷ []) → three x y z ≡ settings_of_words words
    said p q r words are = sym (ap settings_of_words (are h) ∙ of_three w.first.now w.second.now w.third.now ∙ rw (sym p, sym q, sym r))

    -- the form of one is wrong
    pub read_first : none ≡ number_of w.first.now → WordsRead w (Err Form)
    read_first p = record { says = λ words e are. sym (no_first _ _) ∙ said p refl refl words are; proper = tt }

    pub read_second : {k : ℕ} → some k ≡ number_of w.first.now → none ≡ number_of w.second.now → WordsRead w (Err Form)
    read_second p q = record { says = λ words e are. sym (no_second _ _) ∙ said p q refl words are; proper = tt }

    pub read_third : {k l : ℕ} → some k ≡ number_of w.first.now → some l ≡ number_of w.second.now → none ≡ number_of w.third.now → WordsRead w (Err Form)
    read_third p q r = record { says = λ words e are. sym (no_third _ _) ∙ said p q r words are; proper = tt }

    -- three numbers
    module _ {x y z : ℕ} (p : some x ≡ number_of w.first.now) (q : some y ≡ number_of w.second.now) (r : some z ≡ number_of w.third.now) where
      by_bounds : {k : ℕ} → k ≡ refuse_settings (record { notion = x; kind = y; factor = z }) → (words : List (List ℕ))
          → (w.count ≡ 3 → words ≡ w.first.now ∷ w.second.now ∷ w.third.now ∷ []) → bounded k (record { notion = x; kind = y; factor = z }) ≡ settings_of_words words
      by_bounds e words are = ap (λ (m : ℕ). bounded m (record { notion = x; kind = y; factor = z })) e ∙ sym (all_three _) ∙ said p q r words are

      pub read_bounds : {e : Refusal} → number e ≡ refuse_settings (record { notion = x; kind = y; factor = z }) → WordsRead w (Err e)
      read_bounds {e} d = record { says = λ words l are. sym (bounded-wrong (number e) _ (number-some e)) ∙ by_bounds d words are; proper = tt }

      pub read_chosen : 0 ≡ refuse_settings (record { notion = x; kind = y; factor = z }) → WordsRead w (Ok (record { notion = x; kind = y; factor = z }))
      read_chosen d = record { says = λ words l are. sym (bounded-chosen 0 _ refl) ∙ by_bounds d words are; proper = sym d }

-- ---- words as they are handed over

held_number : {word a : List ℕ} → Held word a → number_of a ≡ number_of word
held_number (inl e) = ap number_of e
held_number {word} {a} (inr h) = sym (number_empty a (ap length h.1)) ∙ number-long word (omega arith)

same_numbers : (a b c x y z : List ℕ) → number_of a ≡ number_of x → number_of b ≡ number_of y → number_of c ≡ number_of z
    → settings_of_words (a ∷ b ∷ c ∷ []) ≡ settings_of_words (x ∷ y ∷ z ∷ [])
unfolding settings_of_words
same_numbers a b c x y z p q r = λ i. three (p i) (q i) (r i)

-- the words are read as the definition says
pub words_said : (words : List (List ℕ)) {w : Arguments} {r : Result Settings Refusal} → Handed words w → WordsRead w r → words_of r ≡ settings_of_words words
words_said [] h w = w.says [] h.counted (λ e. absurd (omega (arith, h.counted)))
words_said (x ∷ []) h w = w.says (x ∷ []) h.counted (λ e. absurd (omega (arith, h.counted)))
words_said (x ∷ y ∷ []) h w = w.says (x ∷ y ∷ []) h.counted (λ e. absurd (omega (arith, h.counted)))
words_said (x ∷ y ∷ z ∷ []) {w = v} h w =
    w.says (v.first.now ∷ v.second.now ∷ v.third.now ∷ []) h.counted (λ e. refl)
    ∙ same_numbers v.first.now v.second.now v.third.now x y z (held_number (h.first x y z refl)) (held_number (h.second x y z refl)) (held_number (h.third x y z refl))
words_said (x ∷ y ∷ z ∷ v ∷ vs) h w = w.says (x ∷ y ∷ z ∷ v ∷ vs) h.counted (λ e. absurd (omega (arith, h.counted)))

-- and so the text is wanted where they pass
pub wanted-said : {w : Arguments} (r : Result Settings Refusal) → WordsRead w r → TextWanted w (is_ok r)
wanted-said (Ok s) w words h = ap passes (words_said words h w)
wanted-said (Err e) w words h = ap passes (words_said words h w)
