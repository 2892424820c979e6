-- What the readers of the program's words promise. Assumes nothing.
use Rattle.std.specs.Prelude.{ℕ, ◌<◌, ◌≡◌, Bool, true, false, ◌⊎◌, List, [], ◌∷◌, length, Result, Ok, Err, MatchResult, IfOk}
use Rattle.std.proofs.Math.Option as math
use Rattle.model.specs.Calls.{refuse_settings}
use Rattle.model.specs.Program as program
use Rattle.refusal.specs.declared.Refusal.{Refusal}
use Rattle.refusal.specs.declared.Refusal.TheVariants.{Form}
use Rattle.refusal.specs.Numbers.{number}
use Rattle.isolation.specs.declared.Settings.{Settings}
use Rattle.isolation.specs.Numbers.{settings_of}
use Rattle.request.specs.declared.words.Arguments.{Arguments}

-- a word is read as the definition says, or refused for its form
abbrev pub NumberIn : math.Option ℕ → Result ℕ Refusal → Type 0
NumberIn wanted r = MatchResult r (λ m. math.some m ≡ wanted) (λ e. (e ≡ Form) × (math.none ≡ wanted))

-- a refusal's number or the settings, as the definition has them
abbrev pub words_of : Result Settings Refusal → program.Words
words_of (Err r) = program.wrong (number r)
words_of (Ok s) = program.chosen (settings_of s)

-- any words of this count, which are those that are handed over where they are three, say what the definition says; chosen settings have no fault
pub record WordsRead (w : Arguments) (r : Result Settings Refusal) : Type 0 where
  pub says : (words : List (List ℕ)) → length words ≡ w.count → (w.count ≡ 3 → words ≡ w.first.now ∷ w.second.now ∷ w.third.now ∷ [])
      → words_of r ≡ program.settings_of_words words
  pub proper : IfOk r (λ s. refuse_settings (settings_of s) ≡ 0)

-- a word as a buffer of 8 bytes holds it: itself, or nothing where it is longer
abbrev pub Held : List ℕ → List ℕ → Type 0
Held word a = (a ≡ word) ⊎ ((8 < length word) × (a ≡ []))

-- the program's words, of which the first three are handed over
pub record Handed (words : List (List ℕ)) (w : Arguments) : Type 0 where
  pub counted : length words ≡ w.count
  pub first : (x y z : List ℕ) → words ≡ x ∷ y ∷ z ∷ [] → Held x w.first.now
  pub second : (x y z : List ℕ) → words ≡ x ∷ y ∷ z ∷ [] → Held y w.second.now
  pub third : (x y z : List ℕ) → words ≡ x ∷ y ∷ z ∷ [] → Held z w.third.now

-- the words pass
abbrev pub passes : program.Words → Bool
passes (program.wrong k) = false
passes (program.chosen s) = true

-- the text is wanted exactly where the words pass
abbrev pub TextWanted : Arguments → Bool → Type 0
TextWanted w r = (words : List (List ℕ)) → Handed words w → r ≡ passes (program.settings_of_words words)
