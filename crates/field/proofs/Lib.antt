pub mod OrdersLawful
