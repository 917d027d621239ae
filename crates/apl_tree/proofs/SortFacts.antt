-- What the sort of a token says of its word.
use Rattle.std.proofs.Common.{◌≡◌, ℕ, ◌==◌, Bool, true, false, cond, IsTrue, List, [], ◌∷◌, Option, None, Some, refl, sym, subst}
use Rattle.std.proofs.lemmas.Bool.{eqb-true}
use Rattle.apl_base.specs.declared.cells.Kind.TheVariants as kind
use Rattle.apl_base.specs.declared.faults.Place.{Place}
use Rattle.apl_model.proofs.Machine.{Sort, literal, named, scalar, plain, turn, slash, slash_first, backslash, jot, dot, assign, arrow, quad, open_paren, close_paren, open_bracket, close_bracket, semicolon, other, Entry, entries, sort_in, sort}
use Rattle.apl_model.specs.Characters.{is_name}
use Rattle.apl_model.specs.Grammar.{IsLiteral, IsMonadic, IsDyadic, arguments_of}
use Rattle.apl_model.specs.Spelling.{at, glyph, dya_glyph, monadic_marks, dyadic_marks, literal_word}
use Rattle.apl_model.specs.declared.functions.DyaFn.{DyaFn}
use Rattle.apl_model.specs.declared.functions.MonFn.{MonFn}
use Rattle.apl_model.specs.declared.tokens.Heading.{Heading}
use Rattle.apl_model.specs.declared.tokens.Token.{Token}
use Rattle.apl_model.specs.declared.tokens.Word.{Word}
use Rattle.apl_model.specs.declared.tokens.Word.TheVariants as word
use Rattle.apl_tree.proofs.Shown.{Agree}

-- the words that tokens have
abbrev pub IsWord : Word → Type 0
IsWord (word.Numbers zs) = IsLiteral (record { kind = kind.Num; cells = zs })
IsWord (word.Chars zs) = IsLiteral (record { kind = kind.Char; cells = zs })
IsWord (word.Name n) = IsTrue (is_name n)
IsWord (word.Glyph c) = Unit {0}

abbrev pub AreWords : List Token → Type 0
AreWords [] = Unit {0}
AreWords (t ∷ ts) = IsWord t.word × AreWords ts

abbrev pub IsAlone : Word → Option MonFn → Type 0
IsAlone w None = Unit {0}
IsAlone w (Some f) = IsMonadic f × ((p : Place) → monadic_marks f p ≡ at p w ∷ [])

abbrev pub IsBetween : Word → Option DyaFn → Type 0
IsBetween w None = Unit {0}
IsBetween w (Some f) = IsDyadic f × ((p : Place) → dyadic_marks f p ≡ at p w ∷ [])

module _ (hs : List Heading) where
  abbrev pub IsSortOf : Word → Sort → Type 0
  IsSortOf w (literal l) = (w ≡ literal_word l) × IsLiteral l
  IsSortOf w (named n k) = (w ≡ word.Name n) × IsTrue (is_name n) × (arguments_of hs n ≡ k)
  IsSortOf w (scalar f m) = (w ≡ dya_glyph f) × Agree f m
  IsSortOf w (plain f g) = IsAlone w f × IsBetween w g
  IsSortOf w turn = w ≡ glyph "⌽"
  IsSortOf w slash = w ≡ glyph "/"
  IsSortOf w slash_first = w ≡ glyph "⌿"
  IsSortOf w backslash = w ≡ glyph "\\"
  IsSortOf w jot = w ≡ glyph "∘"
  IsSortOf w dot = w ≡ glyph "."
  IsSortOf w assign = w ≡ glyph "←"
  IsSortOf w arrow = w ≡ glyph "→"
  IsSortOf w quad = w ≡ glyph "⎕"
  IsSortOf w open_paren = w ≡ glyph "("
  IsSortOf w close_paren = w ≡ glyph ")"
  IsSortOf w open_bracket = w ≡ glyph "["
  IsSortOf w close_bracket = w ≡ glyph "]"
  IsSortOf w semicolon = w ≡ glyph ";"
  IsSortOf w other = Unit {0}

  abbrev AreEntries : List Entry → Type 0
  AreEntries [] = Unit {0}
  AreEntries (e ∷ es) = IsSortOf (word.Glyph e.glyph) e.sort × AreEntries es

  entries_hold : AreEntries entries
  entries_hold = (
    (refl, refl),
    (
      (refl, refl),
      (
        (refl, refl),
        (
          (refl, refl),
          (
            (refl, tt),
            (
              (refl, refl),
              (
                (refl, refl),
                (
                  (refl, refl),
                  (
                    (refl, tt),
                    (
                      (refl, tt),
                      (
                        (refl, tt),
                        (
                          (refl, tt),
                          (
                            (refl, tt),
                            (
                              (refl, tt),
                              (
                                (refl, tt),
                                (
                                  (refl, tt),
                                  (
                                    (refl, tt),
                                    (
                                      (refl, tt),
                                      (
                                        ((tt, λ p. refl), tt),
                                        (
                                          ((tt, λ p. refl), tt),
                                          (
                                            ((tt, λ p. refl), (tt, λ p. refl)),
                                            (
                                              ((tt, λ p. refl), (tt, λ p. refl)),
                                              (
                                                ((tt, λ p. refl), (tt, λ p. refl)),
                                                (
                                                  ((tt, λ p. refl), (tt, λ p. refl)),
                                                  (
                                                    ((tt, λ p. refl), (tt, λ p. refl)),
                                                    (
                                                      ((tt, λ p. refl), tt),
                                                      (
                                                        ((tt, λ p. refl), tt),
                                                        (
                                                          (tt, (tt, λ p. refl)),
                                                          (
                                                            (tt, (tt, λ p. refl)),
                                                            (
                                                              (tt, (tt, λ p. refl)),
                                                              (
                                                                (tt, (tt, λ p. refl)),
                                                                (
                                                                  (tt, (tt, λ p. refl)),
                                                                  (
                                                                    (tt, (tt, λ p. refl)),
                                                                    (refl, (refl, (refl, (refl, (refl, (refl, (refl, (refl, (refl, (refl, (refl, (refl, (refl, (refl, tt)))))))))))))),
                                                                  ),
                                                                ),
                                                              ),
                                                            ),
                                                          ),
                                                        ),
                                                      ),
                                                    ),
                                                  ),
                                                ),
                                              ),
                                            ),
                                          ),
                                        ),
                                      ),
                                    ),
                                  ),
                                ),
                              ),
                            ),
                          ),
                        ),
                      ),
                    ),
                  ),
                ),
              ),
            ),
          ),
        ),
      ),
    ),
  )

  by_test : (b : Bool) (w : Word) (s u : Sort) → (b ≡ true → IsSortOf w s) → IsSortOf w u → IsSortOf w (cond b s u)
  by_test true w s u f g = f refl
  by_test false w s u f g = g

  sort_in_holds : (es : List Entry) (c : ℕ) → AreEntries es → IsSortOf (word.Glyph c) (sort_in es c)
  sort_in_holds [] c h = tt
  sort_in_holds (e ∷ es) c h =
      by_test (c == e.glyph) (word.Glyph c) e.sort (sort_in es c)
      (λ q. subst (λ v. IsSortOf (word.Glyph v) e.sort) (sym (eqb-true c e.glyph q)) h.0) (sort_in_holds es c h.1)

  pub sort_holds : (w : Word) → IsWord w → IsSortOf w (sort hs w)
  sort_holds (word.Numbers zs) h = (refl, h)
  sort_holds (word.Chars zs) h = (refl, h)
  sort_holds (word.Name n) h = (refl, h, refl)
  sort_holds (word.Glyph c) h = sort_in_holds entries c entries_hold
