-- The scalar functions: for each of the 27, its value at elements, or undefined (None).
-- `Mon` has those of one argument, `Dya` those of two; in `A f B` the left argument stands first.
use Rattle.std.specs.Prelude.{ℕ, zero, suc, ◌*◌, ◌%◌, ℤ, pos, negsuc, ◌-ℤ◌, ◌+ℤ◌, ◌*ℤ◌, neg_ℤ, int_lt, int_le, int_div, unsigned_abs, nat_le, ◌==◌, Bool, true, false, not, ◌&&◌, ◌||◌, if◌then◌else◌, Option, Some, None}
use Rattle.std.specs.Option.{option_map, option_and_then}
use Rattle.std.specs.Int.{int_max, int_min, int_signum, int_pow, int_div_euclid}
use Rattle.std.specs.Ordering.{int_eq}
use Rattle.apl_base.specs.declared.cells.Kind.{Kind}
use Rattle.apl_base.specs.declared.cells.Kind.TheVariants.{Num, Char}
use Rattle.apl_base.specs.declared.cells.Elem.{Elem}
use Rattle.apl_base.specs.declared.rows.Mon.{Mon}
use Rattle.apl_base.specs.declared.rows.Mon.TheVariants as mon
use Rattle.apl_base.specs.declared.rows.Dya.{Dya}
use Rattle.apl_base.specs.declared.rows.Dya.TheVariants as dya
use Rattle.apl_base.specs.declared.cells.TheConstants.{M}
use Rattle.apl_base.specs.Number.{is_number}

-- a result is defined where it is a number of the language
abbrev pub in_range : ℤ → Option ℤ
in_range z = if is_number z then Some z else None

-- 1 for true, 0 for false
abbrev pub truth : Bool → ℤ
truth b = pos (if b then 1 else 0)

-- the magnitude
abbrev pub magnitude : ℤ → ℤ
magnitude z = pos (unsigned_abs z)

-- 0 is false and 1 is true; no other number is a truth value
abbrev pub truth_value : ℤ → Option Bool
truth_value (pos zero) = Some false
truth_value (pos (suc zero)) = Some true
truth_value (pos (suc (suc n))) = None
truth_value (negsuc n) = None

-- a logical function is defined on truth values alone
abbrev pub logical : (Bool → Bool → Bool) → ℤ → ℤ → Option ℤ
logical f a b = option_and_then (λ p. option_map (λ q. truth (f p q)) (truth_value b)) (truth_value a)

-- the exact quotient, defined where b divides a and is not 0; 0÷0 is 1
abbrev pub quotient : ℤ → ℤ → Option ℤ
quotient (pos zero) (pos zero) = Some (pos 1)
quotient (pos (suc a)) (pos zero) = None
quotient (negsuc a) (pos zero) = None
quotient a (pos (suc b)) = if unsigned_abs a % suc b == 0 then Some (int_div a (pos (suc b))) else None
quotient a (negsuc b) = if unsigned_abs a % suc b == 0 then in_range (int_div a (negsuc b)) else None

-- a to the power b, where that is a number; below b = 0 only 1 and -1 have a power. 0*0 is 1
abbrev pub power : ℤ → ℤ → Option ℤ
power a (pos n) = in_range (int_pow a n)
power a (negsuc n) = if unsigned_abs a == 1 then Some (int_pow a (suc n)) else None

-- b - |a| × floor (b ÷ |a|) for a other than 0; at 0 it is b, where b is not negative
abbrev pub residue : ℤ → ℤ → Option ℤ
residue (pos zero) b = if int_le (pos 0) b then Some b else None
residue (pos (suc a)) b = Some (b -ℤ (pos (suc a) *ℤ int_div_euclid b (pos (suc a))))
residue (negsuc a) b = Some (b -ℤ (pos (suc a) *ℤ int_div_euclid b (pos (suc a))))

-- the product of 1 to n
abbrev pub factorial : ℕ → ℕ
factorial zero = 1
factorial (suc n) = suc n * factorial n

-- the factorial of 0 to 32
abbrev pub factorial_of : ℤ → Option ℤ
factorial_of (pos n) = if nat_le n 32 then Some (pos (factorial n)) else None
factorial_of (negsuc n) = None

-- the functions of one number
abbrev pub of_number : Mon → ℤ → Option ℤ
of_number mon.Plus b = Some b
of_number mon.Minus b = Some (neg_ℤ b)
of_number mon.Sign b = Some (int_signum b)
of_number mon.Recip b = if unsigned_abs b == 1 then Some b else None
of_number mon.Ceil b = Some b
of_number mon.Floor b = Some b
of_number mon.Abs b = Some (magnitude b)
of_number mon.Not b = option_map (λ q. truth (not q)) (truth_value b)
of_number mon.Fact b = factorial_of b

-- the functions of two numbers
abbrev pub of_numbers : Dya → ℤ → ℤ → Option ℤ
of_numbers dya.Add a b = in_range (a +ℤ b)
of_numbers dya.Sub a b = in_range (a -ℤ b)
of_numbers dya.Mul a b = in_range (a *ℤ b)
of_numbers dya.Div a b = quotient a b
of_numbers dya.Pow a b = power a b
of_numbers dya.Max a b = Some (int_max a b)
of_numbers dya.Min a b = Some (int_min a b)
of_numbers dya.Residue a b = residue a b
of_numbers dya.And a b = logical (λ p q. p && q) a b
of_numbers dya.Or a b = logical (λ p q. p || q) a b
of_numbers dya.Nand a b = logical (λ p q. not (p && q)) a b
of_numbers dya.Nor a b = logical (λ p q. not (p || q)) a b
of_numbers dya.Lt a b = Some (truth (int_lt a b))
of_numbers dya.Le a b = Some (truth (int_le a b))
of_numbers dya.Eq a b = Some (truth (int_eq a b))
of_numbers dya.Ge a b = Some (truth (int_le b a))
of_numbers dya.Gt a b = Some (truth (int_lt b a))
of_numbers dya.Ne a b = Some (truth (not (int_eq a b)))

-- equality is defined on characters too; a number never equals a character
abbrev pub is_same_kind : Kind → Kind → Bool
is_same_kind Num Num = true
is_same_kind Char Char = true
is_same_kind Num Char = false
is_same_kind Char Num = false

-- two elements are equal: of one kind and with one cell
abbrev pub is_same : Elem → Elem → Bool
is_same a b = is_same_kind a.kind b.kind && int_eq a.cell b.cell

-- every other function is undefined at a character
abbrev pub on_number : Kind → Option ℤ → Option ℤ
on_number Num z = z
on_number Char z = None

-- a result is a number
abbrev pub number : ℤ → Elem
number z = record { kind = Num; cell = z }

-- `f B`
abbrev pub scalar1 : Mon → Elem → Option Elem
scalar1 f b = option_map number (on_number b.kind (of_number f b.cell))

-- `A f B`, where neither `=` nor `≠` is meant
abbrev pub on_numbers : Dya → Elem → Elem → Option Elem
on_numbers f a b = option_map number (on_number a.kind (on_number b.kind (of_numbers f a.cell b.cell)))

-- `A f B`
abbrev pub scalar2 : Dya → Elem → Elem → Option Elem
scalar2 dya.Eq a b = Some (number (truth (is_same a b)))
scalar2 dya.Ne a b = Some (number (truth (not (is_same a b))))
scalar2 f a b = on_numbers f a b

-- what a reduction over nothing gives; `⍲` and `⍱` have none
abbrev pub identity_of : Dya → Option ℤ
identity_of dya.Add = Some (pos 0)
identity_of dya.Sub = Some (pos 0)
identity_of dya.Mul = Some (pos 1)
identity_of dya.Div = Some (pos 1)
identity_of dya.Pow = Some (pos 1)
identity_of dya.Max = Some (neg_ℤ M)
identity_of dya.Min = Some M
identity_of dya.Residue = Some (pos 0)
identity_of dya.And = Some (pos 1)
identity_of dya.Or = Some (pos 0)
identity_of dya.Nand = None
identity_of dya.Nor = None
identity_of dya.Lt = Some (pos 0)
identity_of dya.Le = Some (pos 1)
identity_of dya.Eq = Some (pos 1)
identity_of dya.Ge = Some (pos 1)
identity_of dya.Gt = Some (pos 0)
identity_of dya.Ne = Some (pos 0)
