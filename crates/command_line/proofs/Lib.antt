mod Given
