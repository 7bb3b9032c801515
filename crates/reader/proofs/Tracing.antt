-- The runs that are told of while a formula is read.
use Rattle.std.proofs.Common.{◌≡◌, ℕ, ◌⊎◌, List, [], ◌∷◌, sym, refl, ap, ◌∙◌, ⊎_elim}
use Rattle.formula.specs.declared.parts.BinaryOperator.{BinaryOperator}
use Rattle.formula.specs.declared.parts.Part.{Part}
use Rattle.formula.specs.declared.parts.UnaryOperator.{UnaryOperator}
use Rattle.text.specs.declared.faults.TextFault.{TextFault}
use Rattle.text.specs.declared.faults.TextFault.TheVariants.{Form, Brackets}
use Rattle.reader.specs.declared.readers.Cursor.{Cursor}
use Rattle.reader.specs.declared.readers.Run.{Run}
use Rattle.reader.specs.Cursors.{Ahead, Operatorless, Passes}
use Rattle.reader.specs.Halts.{halt}
use Rattle.reader.specs.Spellings.{binary_text, unary_text}
use Rattle.reader.specs.Told.{Opened, Tells}
use Rattle.reader.proofs.Telling.{no_close, no_equals, no_open, opened_over, tells_binary, tells_byte, tells_in, tells_none, tells_then, tells_to, tells_unary}

-- refused at the start
pub at_start : (a : Cursor) (old : List (Part Run)) (e : TextFault) → halt e ≡ a.at → Tells a.text.now a.at (halt e) old old
at_start a old e is = tells_to (sym is) (tells_none a.text.now a.at old)

-- where a bracket was refused
pub open_place : (b : Cursor) (left : ℕ) (e : TextFault) → ((e ≡ Form b.at) × (Ahead b 40 → ⊥)) ⊎ ((e ≡ Brackets b.at) × Ahead b 40 × (left ≡ 0)) → halt e ≡ b.at
open_place b left e f = ⊎_elim (λ h. ap halt h.0) (λ h. ap halt h.0) f

-- up to the operand of an operator over one
pub to_operand : {a b o : Cursor} (op : UnaryOperator) (old : List (Part Run)) → Passes a b (unary_text op) 1 → Passes b o (40 ∷ []) 0 → Tells a.text.now a.at o.at old old
to_operand {a} {b} {o} op old p enter = tells_then (tells_unary a.text.now old op refl p) (tells_byte a.text.now old 40 no_open p.same enter)

-- and through it
pub through_operand : {a b o : Cursor} {t : ℕ} {old new : List (Part Run)} (op : UnaryOperator) → Passes a b (unary_text op) 1 → Passes b o (40 ∷ []) 0 → (Opened o → Tells o.text.now o.at t old new) → Tells a.text.now a.at t old new
through_operand {a} {b} {o} {t} {old} {new} op p enter inner = tells_then (to_operand op old p enter) (tells_in (enter.same ∙ p.same) (inner (opened_over enter)))

-- through the left operand
pub through_left : {a o : Cursor} {t : ℕ} {old new : List (Part Run)} → Passes a o (40 ∷ []) 0 → (Opened o → Tells o.text.now o.at t old new) → Tells a.text.now a.at t old new
through_left {a} {o} {t} {old} {new} enter inner = tells_then (tells_byte a.text.now old 40 no_open refl enter) (tells_in enter.same (inner (opened_over enter)))

-- over the closing bracket
pub past_close : {e s : Cursor} {f : ℕ} {old new : List (Part Run)} (text : List ℕ) → e.text.now ≡ text → Passes e s (41 ∷ []) 0 → Tells text f e.at old new → Tells text f s.at old new
past_close {e} {s} {f} {old} {new} text same close r = tells_then r (tells_byte text new 41 no_close same close)

-- where an operator was refused
pub past_operatorless : {s : Cursor} {f : ℕ} {old new : List (Part Run)} (text : List ℕ) (e : TextFault) → s.text.now ≡ text → Operatorless s e → Tells text f s.at old new → Tells text f (halt e) old new
past_operatorless {s} {f} {old} {new} text e same g r =
    ⊎_elim
    (λ h. tells_to (sym (ap halt h.blamed)) r)
    (λ k.
    ⊎_elim
    (λ h. tells_to (sym (ap halt h.blamed)) r)
    (λ h. tells_to (sym (ap halt h.blamed)) (tells_then r (tells_byte text new 61 no_equals same h.read)))
    k)
    g

-- over the operator
pub past_operator : {s v : Cursor} {f : ℕ} {old new : List (Part Run)} (text : List ℕ) (op : BinaryOperator) → s.text.now ≡ text → Passes s v (binary_text op) 1 → Tells text f s.at old new → Tells text f v.at old new
past_operator {s} {v} {f} {old} {new} text op same word r = tells_then r (tells_binary text new op same word)

-- through the right operand
pub through_right : {v u : Cursor} {f t : ℕ} {old mid new : List (Part Run)} (text : List ℕ) → v.text.now ≡ text → Passes v u (40 ∷ []) 0 → Tells text f v.at old mid → (Opened u → Tells u.text.now u.at t mid new) → Tells text f t old new
through_right {v} {u} {f} {t} {old} {mid} {new} text same again r inner =
    tells_then (tells_then r (tells_byte text mid 40 no_open same again)) (tells_in (again.same ∙ same) (inner (opened_over again)))
