-- The lines of a record that are not numbers: the forms spell the uses 1, 2, 3 by their words, the algorithms 5, 6, 7 by their names, and a
-- key by its hex digits. Assumes nothing.
use mathlib.Core.Path.{◌≡◌, refl, subst, ◌∙◌}
use mathlib.Core.List.{List, [], ◌∷◌, ◌++◌}
use mathlib.Core.Bool.{true}
use Prim.Native.Nat.{ℕ}
use Rattle.algorithms.specs.Algorithm.{digit_of, name_of}
use Rattle.fields.specs.Fields.{is_algorithm, is_use}
use Rattle.writing.specs.Text.{ascii, lf, hex_text}
use Rattle.record_text.specs.Text.{use_word}
use Rattle.forms.specs.Form.{Form, done, literal, either, ◌>>=◌}
use Rattle.forms.specs.Words.{one_of}
use Rattle.record_reader.specs.Lines.{use_form, algorithm_form, key_form}
use Rattle.forms.specs.Hexes.{bytes}
use Rattle.forms.proofs.Forms.{Spells, Means, parts, both-spell, made-spells, made, both-live, literal-is, literal-spells, literal-live}
use Rattle.forms.proofs.Words.{words-mean}
use Rattle.forms.proofs.Hexes.{Bytes, bytes-means}

pub use-means : Means use_form (λ u. is_use u ≡ true) (λ u. use_word u ++ (lf ∷ []))
unfolding use_form use_word one_of either literal ◌>>=◌
use-means =
    words-mean use_word 1 refl refl
    (refl, (refl, (refl, (refl, (refl, refl)))))
    (refl, (refl, (refl, (refl, (refl, refl)))))
    (refl, (refl, (refl, (refl, (refl, refl)))))

pub algorithm-means : Means algorithm_form (λ a. is_algorithm a ≡ true) (λ a. name_of a ++ (lf ∷ []))
unfolding algorithm_form name_of digit_of one_of either literal ◌>>=◌
algorithm-means =
    words-mean name_of 5 refl refl
    (refl, (refl, (refl, (refl, (refl, refl)))))
    (refl, (refl, (refl, (refl, (refl, refl)))))
    (refl, (refl, (refl, (refl, (refl, refl)))))

-- a key

pub key-means : Means key_form (Bytes 24) (λ key. hex_text key ++ (lf ∷ []))
unfolding key_form
key-means =
    record {
      spells = λ key g.
          both-spell (bytes 24) tail key key (hex_text key) (lf ∷ []) ((bytes-means 24).spells key g)
          (made-spells (literal (ascii "\n")) (λ _. key) 0 (lf ∷ []) (literal-spells (ascii "\n")));
      only = only;
      live = both-live (bytes 24) tail (bytes-means 24).live (λ key. both-live (literal (ascii "\n")) (λ _. done key) (literal-live (ascii "\n")) (λ _. tt));
    }
  where
    tail : List ℕ → Form (List ℕ)
    tail key = literal (ascii "\n") >>= λ _. done key

    only : (key w : List ℕ) → Spells key_form key w → Bytes 24 key × (w ≡ hex_text key ++ (lf ∷ []))
    only key w h =
        let p = parts (bytes 24) tail key w h in
        let q = made (literal (ascii "\n")) (λ _. p.value) key p.two p.second in
        let r = (bytes-means 24).only p.value p.one p.first in
        subst (λ (x : List ℕ). Bytes 24 x × (w ≡ hex_text x ++ (lf ∷ []))) q.is
        (r.0, p.joined ∙ (λ i. r.1 i ++ literal-is (ascii "\n") p.two q.value q.spells i))
