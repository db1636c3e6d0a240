pub mod Words
pub mod Written
pub mod Forms
pub mod Program
