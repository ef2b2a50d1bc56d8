pub mod Kinds
pub mod Lists
pub mod Texts
pub mod Comparisons
pub mod Reports
