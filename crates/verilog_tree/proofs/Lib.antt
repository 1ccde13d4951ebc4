pub mod ExprViews
pub mod StatementViews
